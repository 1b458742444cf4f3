-- What a byte of a description stands for, tested, measured and written. Assumes nothing.
use Prim.Native.Nat.{ℕ, ◌+◌, ◌-◌}
use native.Mathlib.Omega.{arith}
use mathlib.Core.Path.{◌≡◌, sym, ap, ◌∙◌, subst}
use mathlib.Core.List.{List}
use lib.ListN.{length, get_or}
use Rattle.types.specs.Table.{unfolded}
use Rattle.text.specs.Text.{decimal}
use Rattle.text.specs.Length.{capped}
use Rattle.text.proofs.Decimals.{decimal_at_most_ten}
use Rattle.listing.specs.Literals.{LiteralStands}
use Rattle.listing.proofs.Marks.{literals_stand}
use Rattle.display.specs.Names.{name_text}
use Rattle.display.specs.Length.{text_length}
use Rattle.descriptions.specs.Descriptions.{piece_of, operator_text}
use Rattle.descriptions.specs.declared.Piece.{Piece}
use Rattle.descriptions.specs.declared.Piece.TheVariants.{Row, Number, Operator, Literal}
use Rattle.descriptions.proofs.Operator.{at_most_two}
use Rattle.error_messages.specs.Description.{Inputs, inputs, text_of, ExistsAs}
use Rattle.error_messages.specs.Inner.{Ready}

module _ (s built_in rows : List ℕ) (count : ℕ) (byte word : ℕ) (piece : Piece) (is : piece ≡ piece_of byte) where
  -- What messages are printed from
  abbrev from : Inputs
  from = inputs s built_in rows count

  exists_as : (k : Piece) → piece ≡ k → ExistsAs from (piece_of byte) word → ExistsAs from k word
  exists_as k told h = subst (λ (x : Piece). ExistsAs from x word) (sym is ∙ told) h

  pub literal_stands : ExistsAs from (piece_of byte) word → piece ≡ Literal → LiteralStands s word
  literal_stands exists told = literals_stand s word (exists_as Literal told exists)

  -- The length of what is printed
  length_as : (k : Piece) → piece ≡ k → (n : ℕ) → n ≡ capped (length (text_of from k byte word)) → n ≡ capped (length (text_of from (piece_of byte) byte word))
  length_as k told n h = subst (λ (x : Piece). n ≡ capped (length (text_of from x byte word))) (sym told ∙ is) h

  pub number_length : piece ≡ Number → (n : ℕ) → n ≡ length (decimal word) → n ≡ capped (length (text_of from (piece_of byte) byte word))
  number_length told n e = length_as Number told n (omega (arith, e, decimal_at_most_ten word))

  pub operator_length_lem : piece ≡ Operator → ExistsAs from (piece_of byte) word → (n : ℕ) → n ≡ length (operator_text word) → n ≡ capped (length (text_of from (piece_of byte) byte word))
  operator_length_lem told exists n e = length_as Operator told n (omega (arith, e, at_most_two word (exists_as Operator told exists)))

  pub row_length : (places work : List ℕ) → Ready from places work → ExistsAs from (piece_of byte) word → piece ≡ Row
      → get_or work (word - 1) 0 ≡ capped (length (text_of from (piece_of byte) byte word))
  unfolding text_length
  row_length places work ready exists told =
      let t = exists_as Row told exists in
      let e : word - 1 + 1 ≡ word = omega (arith, t.low) in
      length_as Row told _ (ready.measured.held (word - 1) (omega (arith, t.low, t.high)) ∙ ap (λ (n : ℕ). text_length (name_text s built_in) (unfolded rows n)) e)
