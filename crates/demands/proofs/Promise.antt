-- The three demands are met: one theorem each, from the promises of the services.
use Prim.Native.Nat.{ℕ, ◌≤◌}
use mathlib.Core.Path.{◌≡◌, refl, sym, ap, ◌∙◌, subst}
use mathlib.Core.List.{List, ◌++◌}
use mathlib.Core.Logic.Iff
use mathlib.Core.Logic.{◌↔◌}
use Rattle.logic.proofs.Duality.{dual-holds}
use Rattle.logic.proofs.TestMeaning.{test-holds}
use Rattle.format.specs.Image.{graph_of}
use Rattle.format.specs.Table.{tree_of}
use Rattle.format.proofs.RefusalLaws.{number-injective}
use Rattle.hand.specs.Environment.{started}
use Rattle.hand.specs.Side.{sided}
use Rattle.verdict.proofs.Promise.{verdict-once, yes-exactly, no-exactly}
use Rattle.written.proofs.ChosenLaws.{ours-once}
use Rattle.written.proofs.Derivation.{written_ours}
use Rattle.checker.specs.Header.{header_of}
use Rattle.checker.specs.Check.{CheckAnswer}
use Rattle.checker.specs.Certificate.{Certifies, certificate_of}
use Rattle.checker.proofs.CertificateLaws.{asked-readable, asked-below, asked-stands, certificate-bytes}
use Rattle.checker.proofs.Promise.{check-answers, check-once, accepted-holds, accepted-exactly, one_side, not-both-sides}
use Rattle.std.specs.Prelude.{Result, Ok}
use Rattle.format.specs.declared.Refusal.{Refusal}
use Rattle.writer.specs.Write.{certificate, side_for, WriteAnswer}
use Rattle.writer.specs.declared.answer.Written.{Written}
use Rattle.writer.proofs.Promise.{write-answers, write-once, side-holds, side-exactly, certificate-accepted}
use Rattle.deadends.proofs.Promise.{report-once}
use Rattle.reply.proofs.Promise.{line-there, reply-whole}
use Rattle.demands.specs.Services.{Left}
use Rattle.demands.specs.Demands.{Demand1, Demand2, Demand3, Asked, OurProof}
use Rattle.demands.proofs.ServiceLaws.{serves, some-verdict, some-report, check-given, steps_apart, coded-answer, each-byte, lined-once, line-given}

-- Demand 1, of every image, table and certificate, every goal and start, every lent buffer, and every input of the program.
pub demand-1 : (image table bytes : List ℕ) (goal start : ℕ) (buffer input : List ℕ) → Demand1 image table bytes goal start buffer input
demand-1 image table bytes goal start buffer input = record {
  numbered = number-injective;
  verdict = serves (some-verdict image table goal start) (verdict-once image table goal start) (λ k. Iff.rfl);
  check = serves (check-answers image table bytes goal start) (check-once image table bytes goal start) (check-given image table bytes goal start);
  apart = steps_apart image table bytes goal start;
  loader = coded-answer image table bytes goal start;
  write = serves (let w = write-answers image table goal start buffer in (record { answer = w.0; buffer = w.1 }, w.2)) same
      (λ k. (λ w. w.given, λ g. record { given = g; kept = refl }));
  report = serves (some-report image) (report-once image) (λ k. Iff.rfl);
  program = λ small.
      serves (let l = line-there input buffer (each-byte input small) in (record { answer = l.1; buffer = l.0 }, l.2)) (lined-once input buffer)
      (line-given input buffer);
  prints = λ after out printed r a h room. let whole = reply-whole h room a in (a.line, a.answers, whole.1, whole.2);
}
  where
    same : (v w : Left (Result Written Refusal)) → WriteAnswer image table goal start buffer v.buffer v.answer
        → WriteAnswer image table goal start buffer w.buffer w.answer → v ≡ w
    same v w p q =
        let e = write-once image table goal start buffer v.buffer w.buffer v.answer w.answer p q in
        λ i. record { answer = e.0 i; buffer = e.1 i }

module _ (image table : List ℕ) (goal start : ℕ) (clear : Asked image table goal start) where
  abbrev side : ℕ
  side = side_for image table goal start

  -- Our proof is there, and its certificate is the one that is written.
  our-proof : (p : OurProof image table goal start)
      × (certificate image table goal start ≡ certificate_of image table goal start side p.proof)
  unfolding certificate
  our-proof =
      let f = sided side (tree_of image table goal) in
      let b = asked-below image table goal start clear side in
      let d = asked-stands image table goal start clear in
      let R = asked-readable image table goal start clear in
      let p = written_ours R f (started start) b d ((test-holds R f (started start) b d).1 (side-holds image table goal start clear)) in
      (record { proof = p.0; chosen = p.1 }, ap (λ (steps : List ℕ). header_of side goal start ++ steps) (sym p.2))

  -- So it is that of every proof that is ours.
  our-bytes : (q : OurProof image table goal start) → certificate image table goal start ≡ certificate_of image table goal start side q.proof
  our-bytes q =
      our-proof.1
      ∙ ap (λ (steps : List ℕ). header_of side goal start ++ steps)
      (ours-once (graph_of image) (sided side (tree_of image table goal)) (started start) our-proof.0.proof q.proof our-proof.0.chosen
      q.chosen)

  -- Demand 2, of every question that is not refused.
  pub demand-2 : Demand2 image table goal start
  demand-2 = record {
    yes = λ r p. yes-exactly image table goal start clear r p;
    no = λ r p. no-exactly image table goal start clear r p;
    negation =
        dual-holds (asked-readable image table goal start clear) (tree_of image table goal) (started start)
        (asked-below image table goal start clear 0) (asked-stands image table goal start clear);
    side = side-exactly image table goal start clear;
    some = our-proof.0;
    bytes = our-bytes;
    front = λ before after side size w. (w.side_is, w.size_is, w.bytes);
  }

  -- Where the question is not refused, the checker accepts exactly the certificates of derivations.
  exactly : (bytes : List ℕ) (side : ℕ) → side ≤ 1
      → CheckAnswer image table bytes goal start (Ok side) ↔ Certifies image table goal start side bytes
  exactly bytes side h = (
    λ a. (accepted-exactly image table bytes goal start clear (Ok side) a side h).0 refl,
    λ c.
        let r = check-answers image table bytes goal start in
        subst (CheckAnswer image table bytes goal start) ((accepted-exactly image table bytes goal start clear r.0 r.1 side h).1 c) r.1,
  )

  -- Demand 3, of every question that is not refused.
  pub demand-3 : Demand3 image table goal start
  demand-3 = record {
    sound = λ bytes side a. accepted-holds image table bytes goal start side a;
    one = one_side image table goal start clear;
    not_both = not-both-sides image table goal start clear;
    exactly = exactly;
    storable = λ side h d. certificate-bytes image table goal start clear side h d;
    ours = certificate-accepted image table goal start clear;
  }
