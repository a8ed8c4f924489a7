-- A step's head: what is read at a place, and what that says of the bytes there.
--
--     NoneBelow, no-rule             a code that none of the rules has gives the first rule
--     rule-is, high                  the rule that a code has; a code without a rule is above the last
--     no_code_lem                    22: there is no code byte
--     high-code, other-kind          23: no rule has the code, or its rule is for another kind
--     plain-head                     a rule with no chosen byte
--     no-choice, choosing-head       22: the chosen byte is missing; a rule with its chosen byte
--     numbered, coded                codes and rules fit one another in the table
--     chosen-rule                    the rule that a code has, with its chosen stage
--     not-false, same_takes          no rule is for false; rules with one code take a chosen stage alike
--     head_step, head-begins         a rule is read exactly where it begins and is for the kind in hand
--     same_step                      a step that was read is one
--     Found, found                   what each head was read from
use Prim.Native.Nat.{ℕ, zero, suc, ◌+◌, ◌≤◌, ◌<◌}
use native.Mathlib.Omega.{arith}
use mathlib.Core.Path.{◌≡◌, refl, sym, ap, ap₂, subst, ◌∙◌}
use mathlib.Core.Bool.{Bool, true, false, not}
use mathlib.Core.List.{List, [], ◌∷◌}
use mathlib.Core.Logic.{◌⊎◌, inl, inr, ⊎_elim}
use lib.Dec.{T, ltb, eqb, eqb→eq, ltb→lt, nltb→le}
use lib.ListN.{length, get_or, get_or-eq_default}
use Rattle.std.specs.Prelude.{None, Some, Ok, Err}
use Rattle.std.proofs.lemmas.Option.{slice_get_within, slice_get-get_or, get_or_from_slice_get}
use borrow.Author.Tests.{lt-ltb, le-ltb, eq-eqb, ne_eqb}
use Rattle.logic.specs.Test.{all_below}
use Rattle.logic.proofs.Booleans.{all-below, decide, equal?, differ}
use Rattle.rules.specs.Kind.{Kind, number}
use Rattle.rules.specs.Table.{row, begin, rules, rule_of, rule_with, with_choice, kind_for, some, takes}
use Rattle.rules.specs.Spelled.{Spelled}
use Rattle.rules.specs.declared.Rule.{Rule}
use Rattle.rules.specs.Head.{Head, step_by, head_of, code_at, chosen_at}
use Rattle.rules.specs.declared.Step.{Step}
use Rattle.rules.specs.declared.Unread.{Unread}
use Rattle.rules.proofs.Rows.{empty-at, byte_at, join, first_byte}

-- x is none of the numbers below n
abbrev pub NoneBelow : ℕ → ℕ → Type 0
NoneBelow zero x = Unit {0}
NoneBelow (suc n) x = NoneBelow n x × (x ≡ n → ⊥)

-- Then it is n or more.
past : (n x : ℕ) → NoneBelow n x → n ≤ x
past zero x h = omega arith
past (suc n) x h = let l : n ≤ x = past n x h.0 in let d : x ≡ n → ⊥ = h.1 in omega arith

-- A code that none of the rules has gives the first rule.
pub no-rule : (code c : ℕ) → NoneBelow 17 code → Rule.True ≡ rule_of code c
no-rule code c h = sym (get_or-eq_default (rules c) Rule.True (past 17 code h))

-- Where there is a rule with a code, it is the one of the table; and where there is none, the code is above the last.
pub rule-is : {code : ℕ} {r : Rule} → Some r ≡ rule_with code → (code ≤ 16) × (r ≡ rule_of code 0)
rule-is {code} {r} e =
    let i = slice_get_within (rules 0) code r (sym e) in
    (omega arith, sym (get_or_from_slice_get (rules 0) code r Rule.True (sym e)))

pub high : {code : ℕ} → None ≡ rule_with code → 16 < code
high {code} e = ⊎_elim (λ h. absurd (no_some (e ∙ slice_get-get_or (rules 0) code Rule.True (ltb→lt code 17 h)))) (λ h. nltb→le code 17 h) (decide (ltb code 17))
  where
    no_some : {r : Rule} → None ≡ Some r → ⊥
    no_some e = cc

-- The tests of `head_of`, one after the other.
module _ (bytes : List ℕ) (at k : ℕ) where
  -- No byte stands there.
  pub no_code_lem : length bytes ≤ at → Err Unread.Missing ≡ head_of bytes at k
  unfolding head_of
  no_code_lem h = rw (le-ltb at (length bytes) h)

  module _ (i : at < length bytes) {code : ℕ} (c : code ≡ get_or bytes at 0) where
    -- A byte stands there.
    a-code : head_of bytes at k ≡ code_at bytes at k code
    unfolding head_of
    a-code = rw (lt-ltb at (length bytes) i, c)

    -- No rule has the code.
    pub high-code : 16 < code → Err Unread.Wrong ≡ head_of bytes at k
    high-code h = sym (a-code ∙ rw (le-ltb code 17 h))

    module _ (h : code ≤ 16) {r : Rule} (e : r ≡ rule_of code 0) {j : ℕ} (f : j ≡ kind_for r) where
      -- A rule has it, of another kind.
      pub other-kind : (j ≡ k → ⊥) → Err Unread.Wrong ≡ head_of bytes at k
      other-kind d = sym (a-code ∙ rw (lt-ltb code 17 (omega arith), ← e, ← f, ne_eqb j k d))

      -- A rule has it, of the kind in hand.
      a-rule : j ≡ k → head_of bytes at k ≡ chosen_at bytes at code r
      a-rule d = a-code ∙ rw (lt-ltb code 17 (omega arith), ← e, ← f, eq-eqb j k d)

      -- And takes no chosen byte.
      pub plain-head : j ≡ k → takes r ≡ false → Ok (step_by r (at + 1)) ≡ head_of bytes at k
      plain-head d t = sym (a-rule d ∙ rw t)

      -- And takes one that is missing.
      pub no-choice : j ≡ k → takes r ≡ true → length bytes ≤ at + 1 → Err Unread.Missing ≡ head_of bytes at k
      no-choice d t l = sym (a-rule d ∙ rw (t, le-ltb (at + 1) (length bytes) l))

      -- And takes one that stands there.
      pub choosing-head : j ≡ k → takes r ≡ true → at + 1 < length bytes → {x : ℕ} → x ≡ get_or bytes (at + 1) 0 → {q : Rule} → q ≡ rule_of code x
          → Ok (step_by q (at + 1 + 1)) ≡ head_of bytes at k
      choosing-head d t l x-is g =
          rw (g ∙ ap (λ (y : ℕ). rule_of code y) x-is) (sym (a-rule d ∙ rw (t, lt-ltb (at + 1) (length bytes) l)))

-- The chosen bytes of a rule that takes one, and of a rule that takes none.
abbrev choice : Bool → ℕ → List ℕ
choice true c = c ∷ []
choice false c = []

-- What the table says of a rule and of the rule that has its code and takes c for its chosen stage.
record Numbered (r : Rule) (c : ℕ) : Type 0 where
  small : (row r).code < 17
  code : (row (rule_of (row r).code c)).code ≡ (row r).code
  kind : (row (rule_of (row r).code c)).kind ≡ (row r).kind
  chosen : (row (rule_of (row r).code c)).chosen ≡ choice (takes r) c
  back : (row r).chosen ≡ choice (takes r) c → rule_of (row r).code c ≡ r
  choice : with_choice c r ≡ rule_of (row r).code c
  sort : ((takes r ≡ false) × ((row r).chosen ≡ [])) ⊎ ((d : ℕ) × (takes r ≡ true) × ((row r).chosen ≡ d ∷ []))

-- Of a rule that takes no chosen stage.
plain : (r : Rule) (c : ℕ) → (row r).code < 17 → rule_of (row r).code c ≡ r → with_choice c r ≡ rule_of (row r).code c → takes r ≡ false → (row r).chosen ≡ [] → Numbered r c
plain r c h e w t n = record {
  small = h;
  code = ap (λ (q : Rule). (row q).code) e;
  kind = ap (λ (q : Rule). (row q).kind) e;
  chosen = ap (λ (q : Rule). (row q).chosen) e ∙ n ∙ ap (λ (b : Bool). choice b c) (sym t);
  back = λ k. e;
  choice = w;
  sort = inl (t, n);
}

-- Of every rule.
numbered : (r : Rule) (c : ℕ) → Numbered r c
numbered Rule.True c = plain Rule.True c (omega arith) refl refl refl refl
numbered Rule.Holds c = plain Rule.Holds c (omega arith) refl refl refl refl
numbered Rule.HoldsNot c = plain Rule.HoldsNot c (omega arith) refl refl refl refl
numbered Rule.And c = plain Rule.And c (omega arith) refl refl refl refl
numbered Rule.OrLeft c = plain Rule.OrLeft c (omega arith) refl refl refl refl
numbered Rule.OrRight c = plain Rule.OrRight c (omega arith) refl refl refl refl
numbered Rule.Ax c = plain Rule.Ax c (omega arith) refl refl refl refl
numbered (Rule.Ex d) c = record { small = omega arith; code = refl; kind = refl; chosen = refl; back = λ e. cc; choice = refl; sort = inr (d, refl, refl) }
numbered Rule.AfNow c = plain Rule.AfNow c (omega arith) refl refl refl refl
numbered Rule.AfLater c = plain Rule.AfLater c (omega arith) refl refl refl refl
numbered (Rule.EgOn d) c = record { small = omega arith; code = refl; kind = refl; chosen = refl; back = λ e. cc; choice = refl; sort = inr (d, refl, refl) }
numbered Rule.EgMerge c = plain Rule.EgMerge c (omega arith) refl refl refl refl
numbered Rule.ArRelease c = plain Rule.ArRelease c (omega arith) refl refl refl refl
numbered Rule.ArOn c = plain Rule.ArOn c (omega arith) refl refl refl refl
numbered Rule.ArMerge c = plain Rule.ArMerge c (omega arith) refl refl refl refl
numbered Rule.EuNow c = plain Rule.EuNow c (omega arith) refl refl refl refl
numbered (Rule.EuLater d) c = record { small = omega arith; code = refl; kind = refl; chosen = refl; back = λ e. cc; choice = refl; sort = inr (d, refl, refl) }

-- The rule with a code below 17 has that code.
coded : (code : ℕ) → code < 17 → (row (rule_of code 0)).code ≡ code
unfolding all_below
coded code h = eqb→eq (row (rule_of code 0)).code code ((all-below 17 (λ k. eqb (row (rule_of k 0)).code k)).0 tt code h)

-- The rule with a code, and with c for its chosen stage.
pub chosen-rule : {code : ℕ} {r : Rule} (c : ℕ) → code ≤ 16 → r ≡ rule_of code 0 → with_choice c r ≡ rule_of code c
chosen-rule {code} {r} c h e =
    let k : (row r).code ≡ code = ap (λ (q : Rule). (row q).code) e ∙ coded code (omega arith) in
    (numbered r c).choice ∙ ap (λ (x : ℕ). rule_of x c) k

-- No rule is for false.
pub not-false : (r : Rule) → (row r).kind ≡ Kind.False → ⊥
unfolding all_below
not-false r e =
    let n = numbered r 0 in
    differ (kind_for (rule_of (row r).code 0)) 1 ((all-below 17 (λ k. not (eqb (kind_for (rule_of k 0)) 1))).0 tt (row r).code n.small)
    (ap number (n.kind ∙ e))

-- Rules with one code take a chosen stage alike.
pub same_takes : (r q : Rule) → (row r).code ≡ (row q).code → takes r ≡ takes q
same_takes r q e =
    sym (back (takes r)) ∙ ap some (sym (numbered r 0).chosen ∙ ap (λ (k : ℕ). (row (rule_of k 0)).chosen) e ∙ (numbered q 0).chosen)
    ∙ back (takes q)
  where
    back : (b : Bool) → some (choice b 0) ≡ b
    back true = refl
    back false = refl

module _ (bytes : List ℕ) (at : ℕ) where
  -- Where a rule for the kind in hand begins, that rule is read.
  pub head_step : (r : Rule) {next : ℕ} → Spelled bytes (begin r) at next → head_of bytes at (kind_for r) ≡ Ok (step_by r next)
  head_step r {next} s = ⊎_elim plainly choosing (numbered r 0).sort
    where
      f : (at < length bytes) × (get_or bytes at 0 ≡ (row r).code) × Spelled bytes (row r).chosen (at + 1) next
      f = first_byte s

      small : get_or bytes at 0 ≤ 16
      small = omega (arith, f.1, (numbered r 0).small)

      -- the rule that has the code and takes c for its chosen stage
      same : (c : ℕ) → (row r).chosen ≡ choice (takes r) c → r ≡ rule_of (get_or bytes at 0) c
      same c e = sym ((numbered r c).back e) ∙ ap (λ (k : ℕ). rule_of k c) (sym f.1)

      plainly : (takes r ≡ false) × ((row r).chosen ≡ []) → head_of bytes at (kind_for r) ≡ Ok (step_by r next)
      plainly h =
          let e : at + 1 ≡ next = empty-at (rw h.1 at f.2) in
          sym (plain-head bytes at (kind_for r) f.0 refl small (same 0 (h.1 ∙ ap (λ (b : Bool). choice b 0) (sym h.0))) refl refl h.0) ∙ ap (λ (m : ℕ). Ok (step_by r m)) e

      choosing : (d : ℕ) × (takes r ≡ true) × ((row r).chosen ≡ d ∷ []) → head_of bytes at (kind_for r) ≡ Ok (step_by r next)
      choosing h =
          let g = first_byte (rw h.2 at f.2) in
          let k : kind_for (rule_of (get_or bytes at 0) 0) ≡ kind_for r = rw f.1 (ap number (numbered r 0).kind) in
          let t : takes (rule_of (get_or bytes at 0) 0) ≡ true = rw (f.1, (numbered r 0).chosen, h.1) in
          let q : r ≡ rule_of (get_or bytes at 0) (get_or bytes (at + 1) 0) = rw g.1 (same h.0 (h.2 ∙ ap (λ (b : Bool). choice b h.0) (sym h.1))) in
          sym (choosing-head bytes at (kind_for r) f.0 refl small refl refl k t g.0 refl q) ∙ ap (λ (m : ℕ). Ok (step_by r m)) (empty-at g.2)

-- A step that was read is one.
pub same_step : {s t : Step} → ◌≡◌ {A = Head} (Ok s) (Ok t) → s ≡ t
same_step e = cc

-- What a head was read from. The two ways to 22, the one to 23, and a rule that is for the kind in hand.
pub data Found (bytes : List ℕ) (at k : ℕ) : Head → Type 0 where
  no_code : length bytes ≤ at → Found bytes at k (Err Unread.Missing)
  no_choice : (r : Rule) → at < length bytes → get_or bytes at 0 ≡ (row r).code → kind_for r ≡ k → takes r ≡ true → length bytes ≤ at + 1
      → Found bytes at k (Err Unread.Missing)
  not_for : at < length bytes → ((r : Rule) → get_or bytes at 0 ≡ (row r).code → kind_for r ≡ k → ⊥) → Found bytes at k (Err Unread.Wrong)
  begun : (r : Rule) (next : ℕ) → Spelled bytes (begin r) at next → kind_for r ≡ k → Found bytes at k (Ok (step_by r next))

module _ (bytes : List ℕ) (at k : ℕ) where
  -- A code stands there that a rule for the kind in hand has.
  found-rule : at < length bytes → (r : Rule) → r ≡ rule_of (get_or bytes at 0) 0 → get_or bytes at 0 ≡ (row r).code → kind_for r ≡ k
      → Found bytes at k (head_of bytes at k)
  found-rule i r e f q = ⊎_elim plainly choosing (numbered r 0).sort
    where
      small : get_or bytes at 0 ≤ 16
      small = omega (arith, f, (numbered r 0).small)

      row_of : (q : Rule) → (row q).code ≡ (row r).code → (c : List ℕ) → (row q).chosen ≡ c → begin q ≡ get_or bytes at 0 ∷ c
      row_of q g c h = ap₂ (λ (x : ℕ) (xs : List ℕ). x ∷ xs) (g ∙ sym f) h

      plainly : (takes r ≡ false) × ((row r).chosen ≡ []) → Found bytes at k (head_of bytes at k)
      plainly h = rw (sym (plain-head bytes at k i refl small e refl q h.0)) (begun r (at + 1) (rw (row_of r refl [] h.1) (byte_at i)) q)

      present : takes r ≡ true → at + 1 < length bytes → Found bytes at k (head_of bytes at k)
      present t l =
          let c = get_or bytes (at + 1) 0 in
          let n = numbered r c in
          let g : rule_of (row r).code c ≡ rule_of (get_or bytes at 0) c = ap (λ (x : ℕ). rule_of x c) (sym f) in
          let s : Spelled bytes (begin (rule_of (row r).code c)) at (at + 1 + 1) =
          rw (row_of (rule_of (row r).code c) n.code (c ∷ []) (n.chosen ∙ ap (λ (b : Bool). choice b c) t)) (join (byte_at i) (byte_at l)) in
          rw (sym (choosing-head bytes at k i refl small e refl q t l refl g)) (begun (rule_of (row r).code c) (at + 1 + 1) s (ap number n.kind ∙ q))

      choosing : (d : ℕ) × (takes r ≡ true) × ((row r).chosen ≡ d ∷ []) → Found bytes at k (head_of bytes at k)
      choosing h =
          ⊎_elim (λ t. present h.1 (ltb→lt (at + 1) (length bytes) t))
          (λ t. let l = nltb→le (at + 1) (length bytes) t in rw (sym (no-choice bytes at k i refl small e refl q h.1 l)) (no_choice r i f q h.1 l))
          (decide (ltb (at + 1) (length bytes)))

  -- A code stands there that a rule has.
  found-code : at < length bytes → get_or bytes at 0 < 17 → Found bytes at k (head_of bytes at k)
  found-code i h = ⊎_elim (found-rule i first refl e) other (equal? (kind_for first) k)
    where
      first : Rule
      first = rule_of (get_or bytes at 0) 0

      e : get_or bytes at 0 ≡ (row first).code
      e = sym (coded (get_or bytes at 0) h)

      other : T (not (eqb (kind_for first) k)) → Found bytes at k (head_of bytes at k)
      other f =
          let d = differ (kind_for first) k f in
          rw (sym (other-kind bytes at k i refl (omega arith) refl refl d))
          (not_for i (λ r g q. d (rw g (ap number (numbered r 0).kind ∙ q))))

  -- Every head was read from one of these.
  pub found : Found bytes at k (head_of bytes at k)
  found =
      ⊎_elim (λ t. there (ltb→lt at (length bytes) t)) (λ t. let h = nltb→le at (length bytes) t in rw (sym (no_code_lem bytes at k h)) (no_code h))
      (decide (ltb at (length bytes)))
    where
      there : at < length bytes → Found bytes at k (head_of bytes at k)
      there i =
          ⊎_elim (λ t. found-code i (ltb→lt (get_or bytes at 0) 17 t))
          (λ t. let h = nltb→le (get_or bytes at 0) 17 t in rw (sym (high-code bytes at k i refl h)) (not_for i (λ r e q. omega (arith, e, (numbered r 0).small))))
          (decide (ltb (get_or bytes at 0) 17))

  -- A rule that was read begins there, and is for the kind in hand.
  pub head-begins : {r : Rule} {next : ℕ} → head_of bytes at k ≡ Ok (step_by r next) → Spelled bytes (begin r) at next × (kind_for r ≡ k)
  head-begins {r} {next} e = go found e
    where
      go : {h : Head} → Found bytes at k h → h ≡ Ok (step_by r next) → Spelled bytes (begin r) at next × (kind_for r ≡ k)
      go (no_code _) e = cc
      go (no_choice _ _ _ _ _ _) e = cc
      go (not_for _ _) e = cc
      go (begun q m s i) e =
          let f = same_step e in
          (subst (λ (t : Step). Spelled bytes (begin t.rule) at t.next) f s, ap (λ (t : Step). kind_for t.rule) (sym f) ∙ i)
