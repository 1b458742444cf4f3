-- A module with its items in another order, which a number decides.
use Rattle.std.specs.Prelude.{ℕ, zero, suc, ◌+◌, ◌*◌, ◌≤◌, ◌%◌, ◌≡◌, ltb, length, get_or, set, take, drop}
use mathlib.Core.List.{List, [], ◌∷◌, ◌++◌, map, Permᴰ}
use Rattle.std.proofs.Math.Option.{Option}
use Rattle.fallible.specs.Outcome.{Outcome, refused, accepted, or_next, outcome_after}
use Rattle.names.specs.Names.{names_end, item_places, item_bytes}
use Rattle.layout.specs.Layout.{Good, layout_of, layout_refusal}
use Rattle.meaning.specs.Promise.{refuse_if}
use Rattle.meaning.specs.JoiningOrder.{AnotherOrder}

-- Texts one after the other
unfoldable pub joined : List (List ℕ) → List ℕ
joined [] = []
joined (b ∷ l) = b ++ joined l

-- What stands before the items, then the items at these places
unfoldable pub arranged : List ℕ → (places : List ℕ) → List ℕ
arranged s places = take (names_end s) s ++ joined (map (item_bytes s) places)

-- Two places of a list exchanged
abbrev pub exchanged : List ℕ → (i j : ℕ) → List ℕ
exchanged l i j = set (set l i (get_or l j 0)) j (get_or l i 0)

-- A generator of numbers: its modulus, which is a prime
abbrev pub modulus : ℕ
modulus = 4294967291

-- and its factor
abbrev pub factor : ℕ
factor = 279470273

-- The number after this one
abbrev pub next_number : (number : ℕ) → ℕ
next_number number = (number * factor + 1) % modulus

-- The first `left` members in an order that the number decides: the last of them is exchanged with the one that the next number
-- chooses among them, then those before it are put in order
unfoldable pub permuted : (left number : ℕ) → List ℕ → List ℕ
permuted zero number l = l
permuted (suc zero) number l = l
permuted (suc (suc n)) number l = permuted (suc n) (next_number number) (exchanged l (suc n) (next_number number % suc (suc n)))

-- All members of a list
unfoldable pub permuted_by : (number : ℕ) → List ℕ → List ℕ
permuted_by number l = permuted (length l) (number % modulus) l

-- The module with its items in the order that the number decides
unfoldable pub shuffled_module : (input : List ℕ) → (number : ℕ) → List ℕ
shuffled_module input number = arranged input (permuted_by number (item_places input))

-- No module has more items: each has at least 16 bytes
abbrev pub max_items : ℕ
max_items = 4096

-- The first `count` words are the places of the items
pub record PlacesListed (s words : List ℕ) (count : ℕ) : Type 0 where
  pub inside : count ≤ length words
  pub are : take count words ≡ item_places s

-- The places of the items of a module with no fault in its layout, in any order
pub record Places (s places : List ℕ) : Type 0 where
  pub layout : layout_of s ≡ Good
  pub order : Permᴰ (item_places s) places

-- Why a module is turned back: tests 1 to 3, then 5, where the output is shorter than the input
abbrev pub refusal : (input : List ℕ) → (room : ℕ) → Option (ℕ × ℕ)
refusal input room = or_next (layout_refusal (layout_of input)) (refuse_if (ltb room (length input)) 5)

-- What `shuffle` promises: the module in its new order and the output past it as it was; nothing is written where it is turned back
pub record Shuffled (input : List ℕ) (number : ℕ) (before after : List ℕ) (answer : Outcome Unit) : Type 0 where
  pub answers : answer ≡ outcome_after (refusal input (length before)) (accepted tt)
  pub untouched : (cause place : ℕ) → answer ≡ refused cause place → after ≡ before
  pub written : answer ≡ accepted tt → after ≡ shuffled_module input number ++ drop (length input) before

-- What is so of the module in its new order, whatever the number (`shuffled_reorders`): it has the same names and the same items, each
-- equally often, and no fault in its layout; it is as long as it was, and what stands before the items is as it was
pub record Reordered (input output : List ℕ) : Type 0 where
  pub order : AnotherOrder input output
  pub layout : layout_of output ≡ Good
  pub long : length output ≡ length input
  pub names : take (names_end input) output ≡ take (names_end input) input
