-- A formula's reading breaks exactly where it comes to a formula in hand that is at fault.
--
--     by_shape, start-shape    a formula is read by its shape
--     began                    a reading that comes to an end began at a byte
--     part-read                a part of a formula in hand is read as a formula in hand itself
--     conditions               a rule that begins at the place stands there, or its own condition fails
--     step-broke, broke        a reading that breaks comes to a fault
--     fault-read, comes-read   a formula in hand from which the reading comes to a fault is read so
--     breaks-when              both ways
use Prim.Native.Nat.{ℕ, zero, suc, ◌+◌, ◌≤◌, ◌<◌}
use native.Mathlib.Omega.{arith}
use mathlib.Core.Path.{◌≡◌, refl, sym, ap, subst, ◌∙◌, fun_ext}
use mathlib.Core.Bool.{Bool, true}
use mathlib.Core.Logic.{◌↔◌, ◌⊎◌, inl, inr, ⊎_elim}
use mathlib.Core.List.{List, [], ◌∷◌}
use lib.Dec.{T}
use lib.ListN.{length, get_or}
use Rattle.model.specs.Graph.{Graph, Next, Readable}
use Rattle.model.specs.Formula.{Formula, truth, falsity, is, is_not, and, or, AX, EX, AF, EG, AR, EU, Env, bind}
use Rattle.logic.specs.Rules.{Walk, also, Off}
use Rattle.logic.proofs.Booleans.{count, decide, T_not}
use Rattle.logic.specs.Test.{outside}
use Rattle.logic.proofs.Walks.{fewer-off}
use Rattle.rules.specs.Kind.{Kind, number}
use Rattle.rules.specs.Table.{row, body, begin, some, kind_for, Part}
use Rattle.rules.specs.Spelled.{Spelled}
use Rattle.rules.specs.Shape.{Entry}
use Rattle.rules.specs.Reading.{Reader, headed, asked, parts, leads, meets, read_premises, read_rule, read_step, read_walk, read_formula, Progress}
use Rattle.rules.specs.Refusals.{Hand, shape_of, at_start, part_at, DerivedEntry, entry_steps, Reaches, Stands, Comes, now, later, Fault}
use Rattle.rules.specs.declared.Rule.{Rule}
use Rattle.std.specs.Prelude.{Ok, Err}
use Rattle.rules.specs.Head.{Head, head_of}
use Rattle.rules.specs.declared.Stop.{Stop}
use Rattle.rules.proofs.Heads.{Found, no_code, no_choice, not_for, begun, found, head-begins, not-false, same_takes}
use Rattle.rules.proofs.Rows.{first_byte}
use Rattle.rules.proofs.Faithful.{Faithful}
use Rattle.rules.proofs.Faults.{IsFault}
use Rattle.rules.proofs.PremiseLaws.{Ready, ready, PartLaws}
use Rattle.rules.proofs.PremiseFaults.{Breaks, in-premises, premises-in, reached}
use Rattle.rules.proofs.StepLaws.{number-kind, asked-true, asked-false, headed-at, head-is, part-laws, walk-law}
use Rattle.rules.proofs.Accepted.{fuel, formula-law}

-- An entry from a formula and the stages of its variables.
abbrev entry : Formula → Env → Entry
entry f e = record { formula = f; env = e }

module _ {room : ℕ} {G : Graph} (R : Readable G) (small : G.stages ≤ room) (bytes : List ℕ) where
  -- The readers of an entry, and of the parts of a formula in hand; and how a formula in hand is read, with fuel.
  abbrev read_entry : Entry → Reader
  read_entry f = read_formula room G bytes f.formula f.env

  abbrev walks : Hand → ℕ → Walk → ℕ → Reader
  walks h =
      read_step G bytes (shape_of G h).kind (shape_of G h).holds (λ t. read_entry ((shape_of G h).a t)) (λ t. read_entry ((shape_of G h).b t))

  abbrev reads : Hand → ℕ → Progress
  reads h n = walks h n h.walk h.stage h.place

  abbrev of : Hand → ℕ → Part → ℕ → Reader
  of h n = parts (λ t. read_entry ((shape_of G h).a t)) (λ t. read_entry ((shape_of G h).b t)) (λ t. walks h n (also h.walk h.stage) t)

  -- For false the entries are never read.
  false-alike : (A B C D : ℕ → Reader) (n : ℕ) (w : Walk) (s at : ℕ)
      → read_step G bytes Kind.False true A B n w s at ≡ read_step G bytes Kind.False true C D n w s at
  false-alike A B C D zero w s at = refl
  false-alike A B C D (suc n) w s at = alike (found bytes at 1) (rule A B) (rule C D)
    where
      alike : {h : Head} → Found bytes at 1 h → (k l : Rule → Reader) → headed h at k ≡ headed h at l
      alike (no_code i) k l = refl
      alike (no_choice r i f q t m) k l = refl
      alike (not_for i f) k l = refl
      alike (begun r next s q) k l = absurd (not-false r (number-kind (row r).kind Kind.False q))

      rule : (ℕ → Reader) → (ℕ → Reader) → Rule → Reader
      rule E F = read_rule G true (parts E F (λ t. read_step G bytes Kind.False true E F n (also w s) t)) w s at

  -- A formula is read by its shape.
  by_shape : (f : Formula) (e : Env) (at : ℕ) → read_walk room G bytes f e ≡ walks (at_start G (entry f e) at)
  by_shape truth e at = refl
  by_shape falsity e at = fun_ext (λ n. fun_ext (λ w. fun_ext (λ s. fun_ext (λ m. false-alike _ _ _ _ n w s m))))
  by_shape (is q) e at = refl
  by_shape (is_not q) e at = refl
  by_shape (and f g) e at = refl
  by_shape (or f g) e at = refl
  by_shape (AX x f t) e at = refl
  by_shape (EX x f t) e at = refl
  by_shape (AF x f t) e at = refl
  by_shape (EG x f t) e at = refl
  by_shape (AR x f y g t) e at = refl
  by_shape (EU x f y g t) e at = refl

  start-shape : (f : Entry) (at : ℕ) → read_entry f at ≡ reads (at_start G f at) (suc room)
  start-shape f at =
      let h = at_start G f at in ap (λ (k : ℕ → Walk → ℕ → Reader). k (suc room) h.walk h.stage at) (by_shape f.formula f.env at)

  -- A reading that comes to an end began at a byte.
  pub began : (f : Entry) (at : ℕ) {end : ℕ} → read_entry f at ≡ Ok end → at < length bytes
  began f at e =
      let k = number (shape_of G (at_start G f at)).kind in
      let h = headed-at (head_of bytes at k) at _ (sym (start-shape f at) ∙ e) in
      (first_byte (head-begins bytes at k h.2).0).0

  -- There is fuel for every stage off the walk; and, where the walk goes on, for one less.
  abbrev Lasts : Hand → ℕ → Type 0
  Lasts h n = count G.stages (outside h.walk) < n

  lasts_on : (h : Hand) (n : ℕ) → Lasts h (suc n) → (t : ℕ) → Off h.walk h.stage → Next G h.stage t
      → count G.stages (outside (also h.walk h.stage)) < n
  lasts_on h n l t o u = omega (arith, fewer-off G.stages h.walk h.stage (R.inside h.stage t u).0 o)

  -- The parts of a formula in hand are read faithfully,
  lawful : (h : Hand) (n : ℕ) → Lasts h (suc n)
      → PartLaws bytes G (shape_of G h).holds (λ t. DerivedEntry G ((shape_of G h).a t)) (λ t. DerivedEntry G ((shape_of G h).b t))
      (λ t. entry_steps G ((shape_of G h).a t)) (λ t. entry_steps G ((shape_of G h).b t)) (shape_of G h).kind h.walk h.stage (of h n)
  lawful h n l =
      part-laws R (shape_of G h).holds (λ t. law ((shape_of G h).a t)) (λ t. law ((shape_of G h).b t)) (shape_of G h).kind h.walk h.stage
      (λ t. walks h n (also h.walk h.stage) t)
      (λ o t u. walk-law R (shape_of G h).holds (λ t. law ((shape_of G h).a t)) (λ t. law ((shape_of G h).b t)) (shape_of G h).kind n
      (also h.walk h.stage) (lasts_on h n l t o u) t)
    where
      law : (f : Entry) → Faithful bytes (read_entry f) (DerivedEntry G f) (entry_steps G f)
      law f = formula-law R small bytes f.formula f.env

  -- and as formulas in hand themselves, with fuel enough.
  part-read : (h : Hand) (n : ℕ) → Lasts h (suc n) → (q : Part) (t m : ℕ) → Ready G h.walk h.stage q t
      → (k : ℕ) × Lasts (part_at G h q t m) k × (of h n q t m ≡ reads (part_at G h q t m) k)
  part-read h n l Part.a t m y = (suc room, fuel R small, start-shape ((shape_of G h).a t) m)
  part-read h n l Part.b t m y = (suc room, fuel R small, start-shape ((shape_of G h).b t) m)
  part-read h n l Part.again t m y = (n, lasts_on h n l t y.0 y.1, refl)

  -- The rule r begins at the place and is for the formula in hand: it stands there and its premises are read, or its own condition fails.
  conditions : (h : Hand) (n : ℕ) (r : Rule) (next : ℕ) → Spelled bytes (begin r) h.place next → (row r).kind ≡ (shape_of G h).kind
      → (Stands G bytes h r next × (reads h (suc n) ≡ read_premises G (of h n) h.stage (body r).premises next))
      ⊎ ((Stands G bytes h r next → ⊥) × (reads h (suc n) ≡ Err (Stop.Fails h.place)))
  conditions h n r next b k =
      ⊎_elim (λ o. ⊎_elim (λ c. inl (record { begins = b; serves = k; successor = o; condition = c }, head ∙ first o ∙ asked-true M at rest c))
      (λ c. inr (λ st. (T_not M).0 c st.condition, head ∙ first o ∙ asked-false M at rest c)) (decide M))
      (λ o. inr (λ st. (T_not L).0 o st.successor, head ∙ asked-false L at (asked M at rest) o)) (decide L)
    where
      at : ℕ
      at = h.place

      L : Bool
      L = leads G h.stage (row r).chosen

      M : Bool
      M = meets (shape_of G h).holds h.walk h.stage (body r).condition

      rest : Progress
      rest = read_premises G (of h n) h.stage (body r).premises next

      head : reads h (suc n) ≡ asked L at (asked M at rest)
      head =
          ap (λ (d : Head). headed d at (read_rule G (shape_of G h).holds (of h n) h.walk h.stage at)) (head-is bytes (shape_of G h).kind r k b)

      first : T L → asked L at (asked M at rest) ≡ asked M at rest
      first o = asked-true L at (asked M at rest) o

  -- From a formula in hand the reading comes to one that is at fault so.
  abbrev Broke : Progress → Hand → Type 0
  Broke v h = (g : Hand) × Comes G bytes h g × Fault G bytes g v

  module _ (v : Progress) (u : IsFault v) where
    -- A step breaks at its own place, or its rule stands there and its premises break.
    abbrev Way : Hand → ℕ → Type 0
    Way h n =
        Fault G bytes h v
        ⊎ ((r : Rule) × (next : ℕ) × Stands G bytes h r next × (read_premises G (of h n) h.stage (body r).premises next ≡ v))

    step-broke : (h : Hand) (n : ℕ) → reads h (suc n) ≡ v → Way h n
    step-broke h n e = go (found bytes h.place (number (shape_of G h).kind)) e
      where
        go : {d : Head} → Found bytes h.place (number (shape_of G h).kind) d
            → headed d h.place (read_rule G (shape_of G h).holds (of h n) h.walk h.stage h.place) ≡ v → Way h n
        go (no_code i) q = inl (subst (Fault G bytes h) q (inl i))
        go (no_choice r i c k t l) q =
            inl (subst (Fault G bytes h) q (inr (r, record { within = i; code = c; serves = number-kind (row r).kind (shape_of G h).kind k }, t, l)))
        go (not_for i c) q = inl (subst (Fault G bytes h) q ((i, λ r m. c r m.code (ap number m.serves)), refl))
        go (begun r next b k) q =
            let s = number-kind (row r).kind (shape_of G h).kind k in
            ⊎_elim (λ i. inr (r, next, i.0, sym i.1 ∙ e)) (λ i. inl (subst (Fault G bytes h) (sym i.1 ∙ e) ((r, next, b, s, i.0), refl)))
            (conditions h n r next b s)

    -- A formula in hand breaks only where its reading comes to a fault, if its parts do.
    part-broke : (h : Hand) (n : ℕ) → Lasts h (suc n)
        → ((q : Part) (t m : ℕ) → Ready G h.walk h.stage q t → of h n q t m ≡ v → Broke v (part_at G h q t m)) → reads h (suc n) ≡ v → Broke v h
    part-broke h n l told e = ⊎_elim (λ t. (h, now, t)) (λ k. within k.0 k.1 k.2 k.3) (step-broke h n e)
      where
        onward : (r : Rule) (next : ℕ) → Stands G bytes h r next → (g : Hand) → Reaches G bytes h (body r).premises next g → Broke v g → Broke v h
        onward r next st g x k = (k.0, later r next st g x k.1, k.2)

        within : (r : Rule) (next : ℕ) → Stands G bytes h r next → read_premises G (of h n) h.stage (body r).premises next ≡ v → Broke v h
        within r next st i =
            let go = ready G h.walk h.stage (shape_of G h).holds r st.successor st.condition in
            let c = reached G (shape_of G h).holds (λ t. entry_steps G ((shape_of G h).a t)) (λ t. entry_steps G ((shape_of G h).b t)) (shape_of G h).kind
            h.walk h.stage bytes (Breaks R (lawful h n l) v u) (body r).premises go next
            (in-premises R (lawful h n l) v u (body r).premises go next i) in
            onward r next st (part_at G h c.0 c.1 c.2) (c.5 (λ q t m. part_at G h q t m ≡ part_at G h c.0 c.1 c.2) refl)
            (told c.0 c.1 c.2 c.3 c.4)

    -- An entry breaks only so,
    abbrev Told : Entry → Type 0
    Told f = (m : ℕ) → read_entry f m ≡ v → Broke v (at_start G f m)

    -- and then does a formula with such entries, at each stage of its walk.
    broke : (n : ℕ) (h : Hand) → ((t : ℕ) → Told ((shape_of G h).a t)) → ((t : ℕ) → Told ((shape_of G h).b t)) → Lasts h n → reads h n ≡ v → Broke v h
    broke zero h ta tb l e = absurd (omega arith)
    broke (suc n) h ta tb l e =
        part-broke h n l (by_part (λ t m y. broke n (part_at G h Part.again t m) ta tb (lasts_on h n l t y.0 y.1))) e
      where
        by_part : ((t m : ℕ) → Ready G h.walk h.stage Part.again t → of h n Part.again t m ≡ v → Broke v (part_at G h Part.again t m))
            → (q : Part) (t m : ℕ) → Ready G h.walk h.stage q t → of h n q t m ≡ v → Broke v (part_at G h q t m)
        by_part tc Part.a t m y i = ta t m i
        by_part tc Part.b t m y i = tb t m i
        by_part tc Part.again t m y i = tc t m y i

    start-broke : (f : Entry) → ((t : ℕ) → Told ((shape_of G (at_start G f 0)).a t)) → ((t : ℕ) → Told ((shape_of G (at_start G f 0)).b t)) → Told f
    start-broke f ta tb m e = broke (suc room) (at_start G f m) ta tb (fuel R small) (sym (start-shape f m) ∙ e)

    -- False is at fault itself.
    false-broke : (e : Env) → Told (entry falsity e)
    false-broke e m q =
        ⊎_elim (λ t. (at_start G (entry falsity e) m, now, t)) (λ k. absurd (not-false k.0 k.2.serves))
        (step-broke (at_start G (entry falsity e) m) room (sym (start-shape (entry falsity e) m) ∙ q))

    formula-broke : (f : Formula) (e : Env) → Told (entry f e)
    formula-broke truth e = start-broke _ (λ t. false-broke e) (λ t. false-broke e)
    formula-broke falsity e = false-broke e
    formula-broke (is q) e = start-broke _ (λ t. false-broke e) (λ t. false-broke e)
    formula-broke (is_not q) e = start-broke _ (λ t. false-broke e) (λ t. false-broke e)
    formula-broke (and f g) e = start-broke _ (λ t. formula-broke f e) (λ t. formula-broke g e)
    formula-broke (or f g) e = start-broke _ (λ t. formula-broke f e) (λ t. formula-broke g e)
    formula-broke (AX x f t) e = start-broke _ (λ s. formula-broke f (bind e x s)) (λ s. false-broke e)
    formula-broke (EX x f t) e = start-broke _ (λ s. formula-broke f (bind e x s)) (λ s. false-broke e)
    formula-broke (AF x f t) e = start-broke _ (λ s. formula-broke f (bind e x s)) (λ s. false-broke e)
    formula-broke (EG x f t) e = start-broke _ (λ s. formula-broke f (bind e x s)) (λ s. false-broke e)
    formula-broke (AR x f y g t) e = start-broke _ (λ s. formula-broke f (bind e x s)) (λ s. formula-broke g (bind e y s))
    formula-broke (EU x f y g t) e = start-broke _ (λ s. formula-broke f (bind e x s)) (λ s. formula-broke g (bind e y s))

  -- A formula in hand that is at fault so is read so.
  fault-read : (v : Progress) (h : Hand) → Fault G bytes h v → (n : ℕ) → reads h (suc n) ≡ v
  fault-read (Ok p) h t n = absurd t
  fault-read (Err Stop.Missing) h (inl l) n = go (found bytes h.place (number (shape_of G h).kind)) _
    where
      go : {d : Head} → Found bytes h.place (number (shape_of G h).kind) d → (k : Rule → Reader) → headed d h.place k ≡ Err Stop.Missing
      go (no_code i) k = refl
      go (no_choice r i c q t m) k = refl
      go (not_for i c) k = absurd (omega arith)
      go (begun r next b q) k = absurd (omega (arith, (first_byte b).0))
  fault-read (Err Stop.Missing) h (inr m) n = go (found bytes h.place (number (shape_of G h).kind)) _
    where
      -- a chosen byte that is missing does not stand there
      absent : (l : List ℕ) {next : ℕ} → some l ≡ true → Spelled bytes l (h.place + 1) next → ⊥
      absent [] e b = let z : ◌≡◌ {A = ℕ} 0 1 = cc in omega arith
      absent (c ∷ cs) e b = omega (arith, (first_byte b).0, m.3)

      go : {d : Head} → Found bytes h.place (number (shape_of G h).kind) d → (k : Rule → Reader) → headed d h.place k ≡ Err Stop.Missing
      go (no_code i) k = refl
      go (no_choice r i c q t l) k = refl
      go (not_for i c) k = absurd (c m.0 m.1.code (ap number m.1.serves))
      go (begun r next b q) k =
          let f = first_byte b in absurd (absent (row r).chosen (sym (same_takes m.0 r (sym m.1.code ∙ f.1)) ∙ m.2) f.2)
  fault-read (Err (Stop.Wrong p)) h t n = go (found bytes h.place (number (shape_of G h).kind)) _
    where
      named : (r : Rule) → h.place < length bytes → get_or bytes h.place 0 ≡ (row r).code → kind_for r ≡ number (shape_of G h).kind → ⊥
      named r i c q = t.0.1 r (record { within = i; code = c; serves = number-kind (row r).kind (shape_of G h).kind q })

      go : {d : Head} → Found bytes h.place (number (shape_of G h).kind) d → (k : Rule → Reader) → headed d h.place k ≡ Err (Stop.Wrong p)
      go (no_code i) k = absurd (omega (arith, t.0.0))
      go (no_choice r i c q _ _) k = absurd (named r i c q)
      go (not_for i c) k = ap (λ (p : ℕ). Err (Stop.Wrong p)) t.1
      go (begun r next b q) k = let f = first_byte b in absurd (named r f.0 f.1 q)
  fault-read (Err (Stop.Fails p)) h t n =
      let b = t.0 in ⊎_elim (λ k. absurd (b.4 k.0)) (λ k. k.1 ∙ ap (λ (p : ℕ). Err (Stop.Fails p)) t.1) (conditions h n b.0 b.1 b.2 b.3)

  -- A formula in hand is read so, whatever the fuel, as long as it lasts.
  abbrev ReadSo : Progress → Hand → Type 0
  ReadSo v h = (n : ℕ) → Lasts h n → reads h n ≡ v

  module _ (v : Progress) (u : IsFault v) where
    -- Where a premise that is reached is read so, the formula is.
    premise-read : (h g : Hand) (r : Rule) (next : ℕ) → Stands G bytes h r next → Reaches G bytes h (body r).premises next g → ReadSo v g → ReadSo v h
    premise-read h g r next st x so zero l = absurd (omega arith)
    premise-read h g r next st x so (suc n) l =
        let go = ready G h.walk h.stage (shape_of G h).holds r st.successor st.condition in
        let c = reached G (shape_of G h).holds (λ t. entry_steps G ((shape_of G h).a t)) (λ t. entry_steps G ((shape_of G h).b t)) (shape_of G h).kind
        h.walk h.stage bytes (λ q t m. part_at G h q t m ≡ g) (body r).premises go next x in
        let k = part-read h n l c.0 c.1 c.2 c.3 in
        let i = c.5 (Breaks R (lawful h n l) v u) (k.2 ∙ subst (ReadSo v) (sym c.4) so k.0 k.1) in
        ⊎_elim (λ s. s.1 ∙ premises-in R (lawful h n l) v u (body r).premises go next i) (λ s. absurd (s.0 st))
        (conditions h n r next st.begins st.serves)

    comes-read : {h g : Hand} → Comes G bytes h g → Fault G bytes g v → ReadSo v h
    comes-read {h} now t zero l = absurd (omega arith)
    comes-read {h} now t (suc n) l = fault-read v h t n
    comes-read {h} (later r next st g x c) t n l = premise-read h g r next st x (comes-read c t) n l

  -- A formula's reading breaks with a fault exactly when it comes to a formula in hand that is at fault so.
  pub breaks-when : (f : Entry) (at : ℕ) (v : Progress) → IsFault v
      → (read_formula room G bytes f.formula f.env at ≡ v) ↔ ((h : Hand) × Comes G bytes (at_start G f at) h × Fault G bytes h v)
  breaks-when f at v u = (
    formula-broke v u f.formula f.env at,
    λ k. start-shape f at ∙ comes-read v u k.1 k.2 (suc room) (fuel R small),
  )
