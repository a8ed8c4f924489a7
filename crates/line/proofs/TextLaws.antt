-- Numbers in decimal and bytes in hex.
--
--     decimal-small, decimal-more      a number below ten, and any other
--     decimal-short                    how many digits there are at most
--     decimal-right, decimal-only      the text is the number in decimal, and the only one
--     hex-length                       two bytes for one
--     hex-upper                        each is one of `0` to `9` and `A` to `F`
--     hex-injective                    bytes of one hex are the same bytes
--     hex-one-more                     how a loop extends what it has written
--
-- Assumes nothing.
use Prim.Native.Nat.{ℕ, zero, suc, ◌+◌, ◌-◌, ◌*◌, ◌/◌, ◌%◌, ◌^◌, ◌≤◌, ◌<◌}
use native.Mathlib.Nat.{pow-suc}
use native.Mathlib.Omega.{arith}
use mathlib.Core.Bool.{Bool}
use mathlib.Core.Path.{◌≡◌, refl, sym, ap, ap₂, ◌∙◌, subst}
use mathlib.Core.List.{List, [], ◌∷◌, ◌++◌, append-nil}
use mathlib.Core.Logic.{◌⊎◌, inl, inr, ⊎_elim}
use borrow.Author.Tests.{lt-ltb, le-ltb}
use lib.Dec.{ltb}
use lib.ListN.{length, take, drop, get_or, length-append}
use lib.Seq.{take-suc, append_snoc}
use Rattle.model.specs.Formula.{pick}
use Rattle.sets.proofs.LawsMember.{side?}
use Rattle.line.specs.Text.{digit, Digits, worth, worth_from, NoLeadingZero, InDecimal, pick_text, decimal_within, decimal, hex_digit, hex}

-- ---- decimal

-- However far the recursion may go, a number below ten is its digit,
within-small : (f n : ℕ) → n < 10 → decimal_within f n ≡ digit n ∷ []
unfolding decimal_within
within-small zero n h = refl
within-small (suc f) n h =
    ap (λ (t : Bool). pick_text t (digit n ∷ []) (decimal_within f (n / 10) ++ (digit (n % 10) ∷ []))) (lt-ltb n 10 h)

-- and any other is the same text, if it may go far enough.
within_same : (f g n : ℕ) → n ≤ f → n ≤ g → decimal_within f n ≡ decimal_within g n
unfolding decimal_within
within_same zero zero n h l = refl
within_same zero (suc g) n h l = sym (within-small (suc g) n (omega arith))
within_same (suc f) zero n h l = within-small (suc f) n (omega arith)
within_same (suc f) (suc g) n h l =
    ap (λ (text : List ℕ). pick_text (ltb n 10) (digit n ∷ []) (text ++ (digit (n % 10) ∷ [])))
    (within_same f g (n / 10) (omega arith) (omega arith))

-- A number below ten is its digit; any other the decimal of its tenth and then its last digit.
pub decimal-small : (n : ℕ) → n < 10 → decimal n ≡ digit n ∷ []
unfolding decimal
decimal-small n h = within-small n n h

pub decimal-more : (n : ℕ) → 10 ≤ n → decimal n ≡ decimal (n / 10) ++ (digit (n % 10) ∷ [])
unfolding decimal decimal_within
decimal-more zero h = absurd (omega arith)
decimal-more (suc m) h =
    let n = suc m in
    ap (λ (t : Bool). pick_text t (digit n ∷ []) (decimal_within m (n / 10) ++ (digit (n % 10) ∷ []))) (le-ltb n 10 h)
    ∙ ap (λ (text : List ℕ). text ++ (digit (n % 10) ∷ [])) (within_same m (n / 10) (n / 10) (omega arith) (omega arith))

-- Induction on the digits of a number.
ten-ind : (P : ℕ → Type 0) → ((n : ℕ) → n < 10 → P n) → ((n : ℕ) → 10 ≤ n → P (n / 10) → P n) → (n : ℕ) → P n
ten-ind P base step n = go n n (omega arith)
  where
    go : (f m : ℕ) → m ≤ f → P m
    go zero m h = base m (omega arith)
    go (suc f) m h = ⊎_elim (base m) (λ l. step m l (go f (m / 10) (omega arith))) (side? m 10)

-- A number below 10 to the k has at most k digits.
pub decimal-short : (k n : ℕ) → n < 10 ^ suc k → length (decimal n) ≤ suc k
decimal-short zero n h = omega (arith, ap length (decimal-small n (omega (arith, pow-suc 10 0))))
decimal-short (suc k) n h =
    ⊎_elim (λ l. omega (arith, ap length (decimal-small n l)))
    (λ l.
    omega (
      arith,
      ap length (decimal-more n l),
      length-append (decimal (n / 10)) (digit (n % 10) ∷ []),
      decimal-short k (n / 10) (omega (arith, h, pow-suc 10 (suc k))),
    ))
    (side? n 10)

-- ---- the decimal is right

-- With one digit more a text is worth ten times as much, and the digit.
worth-more : (text : List ℕ) (b so_far : ℕ) → worth_from so_far (text ++ (b ∷ [])) ≡ worth_from so_far text * 10 + (b - 48)
worth-more [] b so_far = refl
worth-more (a ∷ text) b so_far = worth-more text b (so_far * 10 + (a - 48))

-- The decimal of a number is worth the number.
decimal-worth : (n : ℕ) → worth (decimal n) ≡ n
decimal-worth =
    ten-ind (λ (n : ℕ). worth (decimal n) ≡ n) (λ n h. ap worth (decimal-small n h) ∙ omega arith)
    (λ n h ih. ap worth (decimal-more n h) ∙ worth-more (decimal (n / 10)) (digit (n % 10)) 0 ∙ omega arith)

-- With one digit more it is still digits alone,
digits_last : (text : List ℕ) (b : ℕ) → Digits text → 48 ≤ b → b ≤ 57 → Digits (text ++ (b ∷ []))
digits_last [] b d h l = (h, l, tt)
digits_last (a ∷ text) b d h l = (d.0, d.1, digits_last text b d.2 h l)

-- and so is the decimal of a number.
decimal-digits : (n : ℕ) → Digits (decimal n)
decimal-digits =
    ten-ind (λ (n : ℕ). Digits (decimal n))
    (λ n h. subst Digits (sym (decimal-small n h)) (omega arith, omega arith, tt))
    (λ n h ih.
    subst Digits (sym (decimal-more n h)) (digits_last (decimal (n / 10)) (digit (n % 10)) ih (omega arith) (omega arith)))

-- The first digit is there and is not `0`.
abbrev Leads : List ℕ → Type 0
Leads [] = ⊥
Leads (b ∷ text) = b ≡ 48 → ⊥

-- That stays so, whatever follows, and then no `0` leads.
leads-more : (text more : List ℕ) → Leads text → Leads (text ++ more)
leads-more [] more l = absurd l
leads-more (b ∷ text) more l = l

leads-no-zero : (text : List ℕ) → Leads text → NoLeadingZero text
leads-no-zero [] l = l
leads-no-zero (b ∷ []) l = tt
leads-no-zero (b ∷ c ∷ text) l = l

-- The decimal of a number that is not 0 begins so; that of 0 is one digit.
decimal-leads : (n : ℕ) → 0 < n → Leads (decimal n)
decimal-leads =
    ten-ind (λ (n : ℕ). 0 < n → Leads (decimal n))
    (λ n h p. subst Leads (sym (decimal-small n h)) (λ e. omega arith))
    (λ n h ih p. subst Leads (sym (decimal-more n h)) (leads-more (decimal (n / 10)) (digit (n % 10) ∷ []) (ih (omega arith))))

decimal-leading : (n : ℕ) → NoLeadingZero (decimal n)
decimal-leading zero = subst NoLeadingZero (sym (decimal-small 0 (omega arith))) tt
decimal-leading (suc m) = leads-no-zero (decimal (suc m)) (decimal-leads (suc m) (omega arith))

-- The text is the number in decimal,
pub decimal-right : (n : ℕ) → InDecimal n (decimal n)
decimal-right n = record { digits = decimal-digits n; is = decimal-worth n; leading = decimal-leading n }

-- Digits after those of a number that is not 0.
after : (text : List ℕ) (s : ℕ) → 0 < s → Digits text → decimal (worth_from s text) ≡ decimal s ++ text
after [] s p d = sym (append-nil (decimal s))
after (b ∷ text) s p d =
    let t = s * 10 + (b - 48) in
    after text t (omega arith) d.2
    ∙ ap (λ (front : List ℕ). front ++ text)
    (decimal-more t (omega arith)
    ∙ ap₂ (λ (m c : ℕ). decimal m ++ (c ∷ [])) (omega (arith, d.0, d.1)) (omega (arith, d.0, d.1)))
    ∙ append_snoc (decimal s) b text

-- and the only such text.
pub decimal-only : (n : ℕ) (text : List ℕ) → InDecimal n text → text ≡ decimal n
decimal-only n text d = sym (ap decimal (sym d.is) ∙ go text d.digits d.leading)
  where
    first : (b : ℕ) → 48 ≤ b → b ≤ 57 → decimal (0 * 10 + (b - 48)) ≡ b ∷ []
    first b h l = decimal-small (0 * 10 + (b - 48)) (omega arith) ∙ ap (λ (c : ℕ). c ∷ []) (omega arith)

    go : (text : List ℕ) → Digits text → NoLeadingZero text → decimal (worth text) ≡ text
    go [] d z = absurd z
    go (b ∷ []) d z = first b d.0 d.1
    go (b ∷ c ∷ text) d z =
        after (c ∷ text) (0 * 10 + (b - 48)) (omega (arith, d.0, z)) d.2
        ∙ ap (λ (front : List ℕ). front ++ (c ∷ text)) (first b d.0 d.1)

-- ---- hex

-- Two bytes for one.
pub hex-length : (bytes : List ℕ) → length (hex bytes) ≡ 2 * length bytes
unfolding hex
hex-length [] = refl
hex-length (b ∷ bytes) = omega (arith, hex-length bytes)

-- A digit below ten, and the others.
pub hex-digit-low : (d : ℕ) → d < 10 → hex_digit d ≡ 48 + d
hex-digit-low d h = ap (λ (t : Bool). pick t (48 + d) (55 + d)) (lt-ltb d 10 h)

pub hex-digit-high : (d : ℕ) → 10 ≤ d → hex_digit d ≡ 55 + d
hex-digit-high d h = ap (λ (t : Bool). pick t (48 + d) (55 + d)) (le-ltb d 10 h)

-- One of `0` to `9` and `A` to `F`.
abbrev pub Upper : ℕ → Type 0
Upper b = ((48 ≤ b) × (b ≤ 57)) ⊎ ((65 ≤ b) × (b ≤ 70))

upper-digit : (d : ℕ) → d < 16 → Upper (hex_digit d)
upper-digit d h =
    ⊎_elim (λ l. inl (omega (arith, hex-digit-low d l), omega (arith, hex-digit-low d l)))
    (λ l. inr (omega (arith, hex-digit-high d l), omega (arith, hex-digit-high d l)))
    (side? d 10)

-- Digits tell numbers apart,
digit-injective : (d e : ℕ) → hex_digit d ≡ hex_digit e → d ≡ e
digit-injective d e p =
    ⊎_elim
    (λ l. ⊎_elim (λ m. omega (arith, hex-digit-low d l, hex-digit-low e m)) (λ m. omega (arith, hex-digit-low d l, hex-digit-high e m)) (side? e 10))
    (λ l. ⊎_elim (λ m. omega (arith, hex-digit-high d l, hex-digit-low e m)) (λ m. omega (arith, hex-digit-high d l, hex-digit-high e m)) (side? e 10))
    (side? d 10)

-- and so bytes of one hex are the same bytes, of any length.
pub hex-injective : (a b : List ℕ) → hex a ≡ hex b → a ≡ b
unfolding hex
hex-injective [] [] e = refl
hex-injective [] (y ∷ b) e = absurd (omega (arith, ap length e))
hex-injective (x ∷ a) [] e = absurd (omega (arith, ap length e))
hex-injective (x ∷ a) (y ∷ b) e =
    let high = digit-injective (x / 16) (y / 16) (ap (λ (t : List ℕ). get_or t 0 0) e) in
    let low = digit-injective (x % 16) (y % 16) (ap (λ (t : List ℕ). get_or t 1 0) e) in
    ap₂ {C = List ℕ} (λ (z : ℕ) (c : List ℕ). z ∷ c) (omega (arith, high, low)) (hex-injective a b (ap (drop 2) e))

-- Of bytes, each is an upper-case hex digit.
pub hex-upper : (bytes : List ℕ) → ((i : ℕ) → get_or bytes i 0 < 256) → (i : ℕ) → i < length (hex bytes) → Upper (get_or (hex bytes) i 0)
unfolding hex
hex-upper [] small i h = absurd (omega arith)
hex-upper (b ∷ bytes) small zero h = upper-digit (b / 16) (omega (arith, small 0))
hex-upper (b ∷ bytes) small (suc zero) h = upper-digit (b % 16) (omega arith)
hex-upper (b ∷ bytes) small (suc (suc i)) h = hex-upper bytes (λ j. small (suc j)) i (omega arith)

-- Bytes after others, and one byte more.
pub hex-append : (a b : List ℕ) → hex (a ++ b) ≡ hex a ++ hex b
unfolding hex
hex-append [] b = refl
hex-append (x ∷ a) b = ap (λ (t : List ℕ). hex_digit (x / 16) ∷ hex_digit (x % 16) ∷ t) (hex-append a b)

pub hex-one-more : (bytes : List ℕ) (i : ℕ) → i < length bytes
    → hex (take i bytes) ++ (hex_digit (get_or bytes i 0 / 16) ∷ hex_digit (get_or bytes i 0 % 16) ∷ []) ≡ hex (take (suc i) bytes)
unfolding hex
hex-one-more bytes i h = sym (ap hex (take-suc bytes i 0 h) ∙ hex-append (take i bytes) (get_or bytes i 0 ∷ []))
