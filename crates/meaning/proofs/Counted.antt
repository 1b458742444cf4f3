-- The places of bad literals in the file, counted from the start of their items, are those of the items' trees: the errors that are listed,
-- counted so, are the errors of the module. Assumes nothing.
use Prim.Native.Nat.{ℕ, suc, ◌+◌, ◌<◌}
use mathlib.Core.Path.{◌≡◌, refl, sym, ◌∙◌, ap, ap₂}
use mathlib.Core.Bool.{Bool, true, false, cond}
use mathlib.Core.List.{List, [], ◌∷◌, ◌++◌, map, map-append}
use native.Mathlib.Omega.{arith}
use lib.Dec.{eqb}
use lib.ListN.{length, get_or, drop, length-take, length-map}
use Rattle.record_bytes.specs.Bytes.{word_at}
use Rattle.names.specs.Names.{item_places, item_bytes, items_of}
use Rattle.trees.specs.Record.{item_tree}
use Rattle.fallible.specs.Operands.{literal_kind}
use Rattle.meaning.specs.TypeError.{TypeError, move_place}
use Rattle.meaning.specs.Context.{each, All, ModuleContext}
use Rattle.meaning.specs.Module.{errors_in1, declare, empty_context, declarations, module_errors, item_errors, is_taken}
use Rattle.meaning.specs.ItemStart.{place_in_item}
use Rattle.meaning.specs.Promise.{trees_of, built_ins_of, context_of, errors_of, Buffers, Counts, Accepted, error_list_of, placed_item_errors, placed_errors_of, from_item}
use Rattle.meaning.proofs.ItemStarts.{place_in_item_lem}
use Rattle.meaning.specs.Words.{ErrorOf}
use Rattle.meaning.proofs.ErrorWords.{Errors, nothing, both, in_pass_1}
use Rattle.meaning.proofs.Inside.{Free, literals_inside, errors_inside}

-- A change of places that does nothing to those that occur
unchanged : (f : ℕ → ℕ) (m : ℕ) → ((r : ℕ) → r < m → f r ≡ r) → (e : TypeError) → (eqb e.kind literal_kind ≡ true → e.place < m) → move_place f e ≡ e
unchanged f m h e low =
    λ t. record {
      kind = e.kind;
      file = e.file;
      line = e.line;
      column = e.column;
      first = e.first;
      second = e.second;
      third = e.third;
      place = go (eqb e.kind literal_kind) low t;
    }
  where
    go : (x : Bool) → (x ≡ true → e.place < m) → cond x (f e.place) e.place ≡ e.place
    go true l = h e.place (l refl)
    go false l = refl

-- Two changes, one after the other
twice : (f g : ℕ → ℕ) (e : TypeError) → move_place f (move_place g e) ≡ move_place (λ p. f (g p)) e
twice f g e =
    λ t. record {
      kind = e.kind;
      file = e.file;
      line = e.line;
      column = e.column;
      first = e.first;
      second = e.second;
      third = e.third;
      place = go (eqb e.kind literal_kind) t;
    }
  where
    go : (x : Bool) → cond x (f (cond x (g e.place) e.place)) (cond x (g e.place) e.place) ≡ cond x (f (g e.place)) e.place
    go true = refl
    go false = refl

-- Errors whose places are below m
abbrev Low : (m : ℕ) → TypeError → Type 0
Low m = ErrorOf Free Free (λ place. place < m) Free

all_unchanged : (f : ℕ → ℕ) (m : ℕ) → ((r : ℕ) → r < m → f r ≡ r) → (es : List TypeError) → All (Low m) es → map (move_place f) es ≡ es
unfolding All
all_unchanged f m h [] low = refl
all_unchanged f m h (e ∷ es) low = λ t. unchanged f m h e low.0.literal t ∷ all_unchanged f m h es low.1 t

all_twice : (f g : ℕ → ℕ) (es : List TypeError) → map (move_place f) (map (move_place g) es) ≡ map (move_place (λ p. f (g p))) es
all_twice f g [] = refl
all_twice f g (e ∷ es) = λ t. twice f g e t ∷ all_twice f g es t

-- An item's errors
in_its_item : (input : List ℕ) (at r : ℕ) → r < length (item_bytes input at) → r < word_at input at
unfolding item_bytes
in_its_item input at r h = omega (arith, length-take (word_at input at) (drop at input))

pub item_back : (input : List ℕ) (at : ℕ) → ((r : ℕ) → r < word_at input at → place_in_item input (at + r) ≡ r)
    → map (from_item input) (placed_item_errors input at) ≡ item_errors (context_of input) (item_tree (item_bytes input at))
item_back input at f =
    let es = item_errors (context_of input) (item_tree (item_bytes input at)) in
    all_twice (place_in_item input) (λ p. at + p) es
    ∙ all_unchanged (λ p. place_in_item input (at + p)) (length (item_bytes input at)) (λ r h. f r (in_its_item input at r h)) es
    (errors_inside (context_of input) (item_bytes input at)).all

items_back : (input : List ℕ) (places : List ℕ) → ((i r : ℕ) → i < length places → r < word_at input (get_or places i 0) → place_in_item input (get_or places i 0 + r) ≡ r)
    → map (from_item input) (each (placed_item_errors input) places) ≡ each (item_errors (context_of input)) (map item_tree (map (item_bytes input) places))
unfolding each
items_back input [] f = refl
items_back input (p ∷ ps) f =
    map-append (from_item input) (placed_item_errors input p) (each (placed_item_errors input) ps)
    ∙ ap₂ (λ (a b : List TypeError). a ++ b) (item_back input p (λ r h. f 0 r (omega arith) h)) (items_back input ps (λ i r h. f (suc i) r (omega arith)))

-- Pass 1 has no literals
declared_low : (ctx : ModuleContext) (bytes : List (List ℕ)) → Errors Free Free (λ place. place < 0) Free (each errors_in1 (declarations ctx (map item_tree bytes)))
unfolding each declarations
declared_low ctx [] = nothing Free Free (λ place. place < 0) Free
declared_low ctx (x ∷ l) =
    let i = item_tree x in
    both Free Free (λ place. place < 0) Free
    (in_pass_1 Free Free (λ place. place < 0) Free ctx (λ _ _. tt) (is_taken ctx.type_aliases i) i (literals_inside x).declared)
    (declared_low (declare ctx i) l)

-- The errors of a module
pub from_item_lem : (input : List ℕ) → map (from_item input) (placed_errors_of input) ≡ errors_of input
unfolding placed_errors_of errors_of module_errors items_of
from_item_lem input =
    let met = declarations (empty_context (built_ins_of input)) (trees_of input) in
    map-append (from_item input) (each errors_in1 met) (each (placed_item_errors input) (item_places input))
    ∙ ap₂ (λ (a b : List TypeError). a ++ b)
    (all_unchanged (place_in_item input) 0 (λ r h. absurd (omega arith)) (each errors_in1 met) (declared_low (empty_context (built_ins_of input)) (items_of input)).all)
    (items_back input (item_places input) (λ i r. place_in_item_lem input i r))

-- There are as many
pub placed_count : (input : List ℕ) → length (placed_errors_of input) ≡ length (errors_of input)
placed_count input = sym (length-map (placed_errors_of input) (from_item input)) ∙ ap (λ (l : List TypeError). length l) (from_item_lem input)

-- So are those that an accepted run lists
pub counted : (input : List ℕ) (before after : Buffers) (counts : Counts) → Accepted input before after counts
    → map (from_item input) (error_list_of after.rows after.errors counts.errors) ≡ errors_of input
counted input before after counts p = ap (map (from_item input)) p.errors ∙ from_item_lem input
