-- What demand 3 supposes can be met: a module with an alias and two variables of its type, in two orders.
use Prim.Native.Nat.{ℕ, zero, suc, ◌+◌}
use mathlib.Core.Path.{◌≡◌, refl, sym, subst}
use mathlib.Core.Bool.{false}
use mathlib.Core.Logic.{◌≢◌}
use mathlib.Core.List.Permᴰ
use mathlib.Core.List.{List, [], ◌∷◌, ◌++◌, Nodup, Nodup-nil, Nodup-cons, not-mem-nil, mem-singleton}
use Rattle.shape.specs.Shape.{shape_of, due_in, is_done, may_stand, state_after, allowed}
use native.Mathlib.Omega.{arith}
use native.Mathlib.Nat.{ℕ_set}
use lib.ListN.{length}
use Rattle.record_bytes.specs.Bytes.{half_at, word_at}
use Rattle.layout.specs.Layout.{Good, layout_of, list_at, record_at, head_at, is_bad}
use Rattle.names.specs.Names.{chain, stands, names_end, name_places, name_bytes, names_of, name_count, item_places, item_bytes, items_of, same_bytes}
use Rattle.trees.specs.Record.{records_with, records_at, to_type, item_tree}
use Rattle.trees.specs.Tree.{location, name_type, no_value, Item, type_alias, global_declaration}
use Rattle.trees.specs.Example.{word}
use Rattle.meaning.specs.Context.{each}
use Rattle.meaning.specs.Promise.{trees_of}
use Rattle.meaning.specs.JoiningOrder.{AnotherOrder, Supposed, named_in, names_in_declared_types, global_name, alias_name}
use Rattle.meaning.proofs.Permutation.{times_permuted}
use Rattle.meaning.proofs.Places.{PrecedeByPlace}

-- A record of fewer than 256 bytes, all else in its head being 0
abbrev record_of : (kind : ℕ) → (body : List ℕ) → List ℕ
record_of kind body = word (16 + length body) ++ (word kind ++ (word 0 ++ (word 0 ++ body)))

-- Names 0 to 3: u16, A, x, y
abbrev names : List ℕ
names = record_of 2 (record_of 3 (117 ∷ 49 ∷ 54 ∷ []) ++ (record_of 3 (65 ∷ []) ++ (record_of 3 (120 ∷ []) ++ record_of 3 (121 ∷ []))))

abbrev type_named : (name : ℕ) → List ℕ
type_named name = record_of 16 (word 0 ++ word name)

-- type A = u16
abbrev alias_a : List ℕ
alias_a = record_of 81 (word 1 ++ (word 0 ++ type_named 0))

-- x : A, y : A
abbrev variable : (name : ℕ) → List ℕ
variable name = record_of 83 (word name ++ type_named 1)

in_order : (first second : List ℕ) → List ℕ
in_order first second = record_of 1 (names ++ (alias_a ++ (first ++ second)))

-- The trees of the three items
abbrev tree_a : Item
tree_a = type_alias (location 0 0 0 0) 1 false false (name_type (location 24 0 0 0) 0)

abbrev tree_of : (name : ℕ) → Item
tree_of name = global_declaration (location 0 0 0 0) name (name_type (location 20 0 0 0) 1) no_value

abbrev trees_in : (first second : ℕ) → List Item
trees_in first second = tree_a ∷ tree_of first ∷ tree_of second ∷ []

-- Only the variables name A, and they come after it
alias_first : (a b : ℕ) → PrecedeByPlace (trees_in a b)
unfolding names_in_declared_types alias_name named_in
alias_first a b zero zero name p q named m =
    let x : name ≡ 0 = (mem-singleton ℕ_set).0 named in
    let y : name ≡ 1 = (mem-singleton ℕ_set).0 m in
    omega arith
alias_first a b (suc i) zero name p q named m = omega arith
alias_first a b i (suc zero) name p q named m = absurd (not-mem-nil m)
alias_first a b i (suc (suc zero)) name p q named m = absurd (not-mem-nil m)
alias_first a b i (suc (suc (suc j))) name p q named m = absurd (let z : ⊥ = omega arith in z)

supposed : (m : List ℕ) (a b : ℕ) → a ≢ b → layout_of m ≡ Good → trees_of m ≡ trees_in a b → Supposed m
unfolding each global_name alias_name
supposed m a b d l e =
    record {
      layout = l;
      globals = subst (λ ts. Nodup (each global_name ts)) (sym e)
          (Nodup-cons.1 (λ x. d ((mem-singleton ℕ_set).0 x), Nodup-cons.1 (not-mem-nil, Nodup-nil)));
      aliases = subst (λ ts. Nodup (each alias_name ts)) (sym e) (Nodup-cons.1 (not-mem-nil, Nodup-nil));
      precedes = subst PrecedeByPlace (sym e) (alias_first a b);
    }

-- x before y, and y before x
suppositions_met : AnotherOrder (in_order (variable 2) (variable 3)) (in_order (variable 3) (variable 2))
    × Supposed (in_order (variable 2) (variable 3)) × Supposed (in_order (variable 3) (variable 2))
unfolding in_order layout_of list_at record_at head_at is_bad half_at word_at shape_of due_in is_done may_stand state_after allowed
    chain stands names_end name_places name_count names_of name_bytes item_places item_bytes items_of item_tree records_at records_with to_type
suppositions_met = (
  record {
    names = refl;
    items = λ bytes. times_permuted same_bytes bytes
        (Permᴰ.cons {a = alias_a} refl (Permᴰ.swap {a = variable 2} {b = variable 3} {l = []} refl refl));
    empty = refl;
  },
  supposed (in_order (variable 2) (variable 3)) 2 3 (omega arith) refl refl,
  supposed (in_order (variable 3) (variable 2)) 3 2 (omega arith) refl refl,
)
