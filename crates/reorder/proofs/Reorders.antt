-- The module in the order of a number is a module in another order, with no fault in its layout. Assumes nothing.
use Prim.Native.Nat.{ℕ}
use mathlib.Core.Path.{◌≡◌, ◌∙◌, ap}
use mathlib.Core.List.{List, [], map}
use lib.ListN.{length, take}
use lib.Seq.{length-take-le, take_at}
use Rattle.names.specs.Names.{names_end, item_places, item_bytes}
use Rattle.layout.specs.Layout.{Good, layout_of}
use Rattle.node.proofs.Open.{names_inside}
use Rattle.meaning.specs.JoiningOrder.{AnotherOrder}
use Rattle.reorder.specs.Order.{joined, arranged, permuted_by, shuffled_module, Places, Reordered}
use Rattle.reorder.proofs.Exchanges.{permuted_by_lem}
use Rattle.reorder.proofs.NewOrder.{arranged_is, new_length, new_order, still_empty}
use Rattle.reorder.proofs.NewLayout.{new_layout}

module _ (input : List ℕ) (number : ℕ) (good : layout_of input ≡ Good) where
  places : Places input (permuted_by number (item_places input))
  places = record { layout = good; order = permuted_by_lem number (item_places input) }

  pub shuffled_order : AnotherOrder input (shuffled_module input number)
  unfolding shuffled_module
  shuffled_order = new_order input (permuted_by number (item_places input)) places

  pub shuffled_layout : layout_of (shuffled_module input number) ≡ Good
  unfolding shuffled_module
  shuffled_layout = new_layout input (permuted_by number (item_places input)) places

  pub shuffled_length : length (shuffled_module input number) ≡ length input
  unfolding shuffled_module
  shuffled_length =
      let p = permuted_by number (item_places input) in
      ap length (arranged_is input p places) ∙ new_length input p places

  pub shuffled_names : take (names_end input) (shuffled_module input number) ≡ take (names_end input) input
  unfolding shuffled_module arranged
  shuffled_names =
      take_at (take (names_end input) input) (joined (map (item_bytes input) (permuted_by number (item_places input)))) (names_end input)
      (length-take-le (names_end input) input (names_inside input))

  -- A file of no bytes stays so
  pub shuffled_empty : input ≡ [] → shuffled_module input number ≡ input
  unfolding shuffled_module
  shuffled_empty e = still_empty input (permuted_by number (item_places input)) places e

  -- All of them
  pub shuffled_reorders : Reordered input (shuffled_module input number)
  shuffled_reorders = record { order = shuffled_order; layout = shuffled_layout; long = shuffled_length; names = shuffled_names }
