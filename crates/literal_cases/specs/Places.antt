-- Where a byte is.
use Rattle.std.specs.Prelude.{ℕ, zero, suc, cond, List, [], ◌∷◌, eqb}

-- The place of the first such byte; where there is none, how many bytes there are
abbrev pub index_of : (byte : ℕ) → List ℕ → ℕ
index_of byte [] = zero
index_of byte (first ∷ rest) = cond (eqb first byte) zero (suc (index_of byte rest))
