-- The lines of the bases and the answer to a text, put together. Assumes nothing.
use Prim.Native.Nat.{ℕ, zero, suc, ◌+◌, ◌≤◌, ◌<◌}
use mathlib.Core.Path.{◌≡◌, refl, sym, ◌∙◌, ap, subst}
use mathlib.Core.List.{[], ◌∷◌, ◌++◌}
use mathlib.Core.Option.{Option, none, some}
use mathlib.Core.Bool.{Bool, true, false}
use lib.Dec.{ltb}
use borrow.Author.Tests.{ltb-true, ltb-false}
use native.Mathlib.Numerals.{add-one}
use native.Mathlib.Omega.{arith}
use Rattle.std.specs.Prelude as code
use Rattle.literal.specs.Literal.{from_str_radix, parsed_value}
use Rattle.program_support.specs.Buffer.{a_text, a_number}
use Rattle.program_support.specs.Lines.{Puts, PutsSome}
use Rattle.program_support.specs.declared.print.Buffer.{Buffer}
use Rattle.program_support.proofs.LineLaws.{puts_none, puts_then, some_none, some_then, some_first}
use Rattle.literal_cases.specs.Lines.{byte_is, byte_alone, bytes_alone, base_line, base_lines, answer_line}

module _ {A : Type 0} {w : ℕ} where
  -- ---- a byte alone
  pub no_value : (base byte : ℕ) (parsed : code.Option ℕ) → parsed_value parsed ≡ from_str_radix base (byte ∷ []) → parsed ≡ code.None → (b : Buffer A w) → Puts (byte_alone base byte) b b
  no_value base byte parsed is e b = subst (λ (v : Option ℕ). Puts (byte_is byte v) b b) (sym (ap parsed_value e) ∙ is) (puts_none b)

  -- ---- all bytes
  module _ (base : ℕ) where
    pub bytes_none : (b : Buffer A w) → Puts (bytes_alone base 0) b b
    unfolding bytes_alone
    bytes_none b = puts_none b

    pub bytes_more : (byte : ℕ) {b b₁ b₂ : Buffer A w} → Puts (bytes_alone base byte) b b₁ → Puts (byte_alone base byte) b₁ b₂ → Puts (bytes_alone base (byte + 1)) b b₂
    unfolding bytes_alone
    bytes_more byte h g = rw add-one (puts_then h g)

    pub base_all : {b b₁ b₂ b₃ : Buffer A w} → Puts (a_number base ∷ []) b b₁ → Puts (bytes_alone base 256) b₁ b₂ → Puts (a_text (10 ∷ []) ∷ []) b₂ b₃ → Puts (base_line base) b b₃
    unfolding base_line
    base_all p h t = puts_then p (puts_then h t)

    -- Not all of them were put
    pub bytes_some : (n byte : ℕ) {b b₁ b₂ : Buffer A w} → byte < n → Puts (bytes_alone base byte) b b₁ → PutsSome (byte_alone base byte) b₁ b₂ → PutsSome (bytes_alone base n) b b₂
    unfolding bytes_alone
    bytes_some zero byte p h s = absurd (omega arith)
    bytes_some (suc n) byte {b} {b₁} {b₂} p h s = go (ltb byte n) refl (λ q. bytes_some n byte q h s)
      where
        go : (t : Bool) → ltb byte n ≡ t → (byte < n → PutsSome (bytes_alone base n) b b₂) → PutsSome (bytes_alone base n ++ byte_alone base n) b b₂
        go true e before = some_first (byte_alone base n) (before (ltb-true byte n e))
        go false e before =
            let q : n ≤ byte = ltb-false byte n e in
            let same : byte ≡ n = omega arith in
            subst (λ (m : ℕ). PutsSome (bytes_alone base m ++ byte_alone base m) b b₂) same (some_then h s)

    -- The base, its bytes, or the end of its line were not
    pub base_number : {b b₁ : Buffer A w} → b₁ ≡ b → PutsSome (base_line base) b b₁
    unfolding base_line
    base_number e = some_none e

    pub base_bytes : {b b₁ b₂ : Buffer A w} → Puts (a_number base ∷ []) b b₁ → PutsSome (bytes_alone base 256) b₁ b₂ → PutsSome (base_line base) b b₂
    unfolding base_line
    base_bytes p s = some_then p (some_first (a_text (10 ∷ []) ∷ []) s)

    pub base_end : {b b₁ b₂ b₃ : Buffer A w} → Puts (a_number base ∷ []) b b₁ → Puts (bytes_alone base 256) b₁ b₂ → b₃ ≡ b₂ → PutsSome (base_line base) b b₃
    unfolding base_line
    base_end p h e = some_then p (some_then h (some_none e))

  -- ---- all bases
  pub bases_none : (b : Buffer A w) → Puts (base_lines 0) b b
  unfolding base_lines
  bases_none b = puts_none b

  pub bases_more : (base : ℕ) {b b₁ b₂ : Buffer A w} → Puts (base_lines base) b b₁ → Puts (base_line base) b₁ b₂ → Puts (base_lines (base + 1)) b b₂
  unfolding base_lines
  bases_more base h g = rw add-one (puts_then h g)

  pub bases_some : (n base : ℕ) {b b₁ b₂ : Buffer A w} → base < n → Puts (base_lines base) b b₁ → PutsSome (base_line base) b₁ b₂ → PutsSome (base_lines n) b b₂
  unfolding base_lines
  bases_some zero base p h s = absurd (omega arith)
  bases_some (suc n) base {b} {b₁} {b₂} p h s = go (ltb base n) refl (λ q. bases_some n base q h s)
    where
      go : (t : Bool) → ltb base n ≡ t → (base < n → PutsSome (base_lines n) b b₂) → PutsSome (base_lines n ++ base_line n) b b₂
      go true e before = some_first (base_line n) (before (ltb-true base n e))
      go false e before =
          let q : n ≤ base = ltb-false base n e in
          let same : base ≡ n = omega arith in
          subst (λ (m : ℕ). PutsSome (base_lines m ++ base_line m) b b₂) same (some_then h s)

  -- ---- the answer to a text
  pub answer_value : {parsed : code.Option ℕ} {value : ℕ} {b b₁ b₂ : Buffer A w} → parsed ≡ code.Some value → Puts (a_number value ∷ []) b b₁ → Puts (a_text (10 ∷ []) ∷ []) b₁ b₂ → Puts (answer_line (parsed_value parsed)) b b₂
  answer_value {parsed} {value} {b} {b₁} {b₂} e p q = subst (λ (x : code.Option ℕ). Puts (answer_line (parsed_value x)) b b₂) (sym e) (puts_then p q)

  -- Its first text was not put
  pub answer_none : (parsed : code.Option ℕ) {b b₁ : Buffer A w} → b₁ ≡ b → PutsSome (answer_line (parsed_value parsed)) b b₁
  answer_none parsed {b} {b₁} e = go (parsed_value parsed)
    where
      go : (o : Option ℕ) → PutsSome (answer_line o) b b₁
      go none = some_none e
      go (some value) = some_none e
