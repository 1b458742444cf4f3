-- A module in another order has no fault in its layout, where the module has none. Assumes nothing.
use Prim.Native.Nat.{ℕ, zero, suc, ◌+◌, ◌-◌, ◌*◌, ◌≤◌, ◌<◌}
use mathlib.Core.Path.{◌≡◌, refl, sym, ◌∙◌, ap, subst}
use mathlib.Core.Bool.{Bool, true, false}
use mathlib.Core.List.{List, [], ◌∷◌, ◌++◌, append-nil, append_assoc}
use mathlib.Core.Logic.{◌⊎◌, inl, inr}
use native.Mathlib.Omega.{arith}
use lib.Dec.{eqb, ltb}
use lib.ListN.{length, take, length-append, length-map}
use borrow.Author.Tests.{eq-eqb, ne_eqb, le-ltb}
use Rattle.shape.specs.Shape.{pick, shape_of, due_in, is_done, may_stand, state_after, must_be, a_module, a_names, an_item}
use Rattle.shape.specs.declared.Holds.{Holds}
use Rattle.shape.specs.declared.Holds.TheVariants.{Nothing, OneModule, NamesThenItems, Items}
use Rattle.shape.proofs.ShapeLaws.{module_kind}
use Rattle.record_bytes.specs.Bytes.{word_at}
use Rattle.names.specs.Names.{names_end, name_places, name_bytes, names_of, name_count, item_bytes}
use Rattle.layout.specs.Layout.{Good, max_bytes, max_depth, kind_at, class_at, stop_at, answer_if, after_head, list_at, record_at, layout_of}
use Rattle.layout.specs.declared.LayoutError.TheVariants.{TooLong}
use Rattle.std.proofs.Common.{Err}
use Rattle.layout.proofs.LayoutLaws.{list_step_lem, record_step}
use Rattle.node.proofs.Open.{headed, opened, split_must}
use Rattle.node.proofs.Open.{ModuleRecord, empty_or_record, module_list, module_parts, names_room, names_inside, few_bytes}
use Rattle.reorder.specs.Order.{joined, arranged, Places}
use Rattle.reorder.proofs.Arranging.{Each, IsItem, items_at, item_room, whole_places}
use Rattle.reorder.proofs.Moved.{step_done, step_good, head_moved, record_moved}
use Rattle.reorder.proofs.NewOrder.{seam_same, seam_word, seam_length, seam_after, module', arranged_is, start_length_lem, new_length, new_same, new_word, new_names, still_empty}

either_way : (b : Bool) (st : Holds) → pick b st st ≡ st
either_way true st = refl
either_way false st = refl

-- The items after the first part of a text that is as long as the module
items_good : (s ps pre : List ℕ) (fuel : ℕ) → Each (IsItem s) ps → length (items_at s ps) < fuel → length (pre ++ items_at s ps) ≡ length s
    → list_at (record_at (name_count s) (pre ++ items_at s ps) 63) (pre ++ items_at s ps) fuel (length pre) (length (pre ++ items_at s ps)) Items ≡ Good
unfolding Each joined list_at due_in is_done may_stand state_after
items_good s ps pre zero e h long = absurd (omega arith)
items_good s [] pre (suc k) e h long =
    let m = pre ++ [] in
    step_done (record_at (name_count s) m 63) (λ a z. list_at (record_at (name_count s) m 63) m k a (length m) z) m (length pre) (length m) (due_in Items)
    (eq-eqb (length pre) (length m) (sym (ap length (append-nil pre))))
items_good s (p ∷ ps) pre (suc k) e h long =
    let b = item_bytes s p in
    let rest = items_at s ps in
    let m = pre ++ (b ++ rest) in
    let n = name_count s in
    let r = item_room s p e.0 in
    let size = seam_length s pre rest p e.0 in
    let word = seam_word s pre rest p e.0 in
    let after = seam_after s pre rest p e.0 in
    let same = seam_same s pre rest p e.0 in
    let class : class_at s p ≡ an_item = (opened s 63 p (length s) an_item e.0).belongs in
    let not_yet : length pre ≡ length m → ⊥ = λ (z : length pre ≡ length m). omega (arith, r.0) in
    let next = items_good s ps (pre ++ b) k e.1 (omega (arith, length-append b rest, r.0, r.2)) (ap length (append_assoc pre b rest) ∙ long) in
    let later : list_at (record_at n m 63) m k (length (pre ++ b)) (length m) Items ≡ Good =
    subst (λ (x : List ℕ). list_at (record_at n x 63) x k (length (pre ++ b)) (length x) Items ≡ Good) (append_assoc pre b rest) next in
    let stop : stop_at m (length pre) ≡ length (pre ++ b) = omega arith in
    step_good (record_at n m 63) (λ a z. list_at (record_at n m 63) m k a (length m) z) m (length pre) (length m) (due_in Items)
    (ne_eqb (length pre) (length m) not_yet) refl
    (record_moved n m s (length pre) p (word_at s p) same long 63 (length pre) p 0 (length m) (length s) (must_be an_item Nothing) (due_in Items) (omega arith) (omega arith)
    e.0.ok (omega arith) (omega arith) (ap (may_stand (due_in Items)) class))
    ((λ j. list_at (record_at n m 63) m k (stop j) (length m) (either_way (eqb (class_at m (length pre)) an_item) Items j)) ∙ later)

module _ (s places : List ℕ) (p : Places s places) (whole : ModuleRecord s) where
  -- the new module, where its items start, how many names both have
  abbrev m : List ℕ
  m = module' s places p

  abbrev n : ℕ
  n = name_count s

  abbrev head : ℕ
  head = names_end s

  long : length m ≡ length s
  long = new_length s places p

  low : 32 ≤ head
  low = let r = names_room s whole in omega (arith, r.low, r.end)

  names_good : record_at n m 63 16 (length m) (must_be a_names Items) ≡ Good
  unfolding may_stand
  names_good =
      let f = (module_parts s whole).names in
      let class : class_at s 16 ≡ a_names = (opened s 63 16 (length s) a_names f).belongs in
      record_moved n m s 0 0 head (new_same s places p) long 63 16 16 16 (length m) (length s) (must_be a_names Nothing) (must_be a_names Items) (omega arith) (omega arith)
      f.ok (omega (arith, (names_room s whole).end)) (omega (arith, (names_room s whole).inside, long)) (ap (may_stand (must_be a_names Items)) class)

  children_good : list_at (record_at n m 63) m (suc (length m)) 16 (length m) NamesThenItems ≡ Good
  unfolding list_at due_in is_done state_after
  children_good =
      let w = whole_places s places p in
      let word = new_word s places p 16 (omega (arith, low)) in
      let from : stop_at m 16 ≡ length (take head s) = omega (arith, start_length_lem s places p, (names_room s whole).end) in
      let items = items_good s places (take head s) (length m) w.each (omega (arith, low, long, w.fill)) long in
      step_good (record_at n m 63) (λ a z. list_at (record_at n m 63) m (length m) a (length m) z) m 16 (length m) (must_be a_names Items) refl refl names_good
      ((λ j. list_at (record_at n m 63) m (length m) (from j) (length m) (either_way (eqb (class_at m 16) a_names) Items j)) ∙ items)

  module_good : record_at n m max_depth 0 (length m) (must_be a_module Nothing) ≡ Good
  unfolding shape_of due_in may_stand
  module_good =
      let f = (split_must s max_depth 0 (length s) OneModule a_module Nothing refl (module_list s whole)).first in
      let o = opened s max_depth 0 (length s) a_module f in
      let k = module_kind (kind_at s 0) o.belongs in
      let h = headed n s max_depth 0 (length s) (must_be a_module Nothing) f.ok in
      let all = (module_parts s whole).whole in
      let none : (shape_of (kind_at s 0)).fields ≡ 0 = ap (λ (x : ℕ). (shape_of x).fields) k in
      let moved = head_moved n m s 0 0 head (new_same s places p) 0 0 0 (omega arith) (omega arith) (length m) (length s) (must_be a_module Nothing) (must_be a_module Nothing)
      h.head h.is (omega (arith, low)) (omega (arith, long)) (ap (may_stand (must_be a_module Nothing)) o.belongs) in
      let from : 0 + 16 + 4 * (shape_of (kind_at s 0)).fields ≡ 16 = omega arith in
      let to : 0 + word_at s 0 ≡ length m = omega (arith, long) in
      let holds : (shape_of (kind_at s 0)).holds ≡ NamesThenItems = ap (λ (x : ℕ). (shape_of x).holds) k in
      record_step n m max_depth 0 (length m) (must_be a_module Nothing) (omega arith)
      ∙ ap (after_head (λ a b c. list_at (record_at n m 63) m (suc (length m)) a b c)) moved
      ∙ (λ j. list_at (record_at n m 63) m (suc (length m)) (from j) (to j) (holds j)) ∙ children_good

  nothing_good : list_at (record_at n m max_depth) m (length m) (length m) (length m) Nothing ≡ Good
  unfolding due_in is_done
  nothing_good =
      list_step_lem (record_at n m max_depth) m (length m) (length m) (length m) Nothing (omega (arith, low, names_inside s, long))
      ∙ step_done (record_at n m max_depth) (λ a z. list_at (record_at n m max_depth) m (length m - 1) a (length m) z) m (length m) (length m) (due_in Nothing)
      (eq-eqb (length m) (length m) refl)

  whole_good : list_at (record_at n m max_depth) m (suc (length m)) 0 (length m) OneModule ≡ Good
  unfolding list_at due_in is_done state_after
  whole_good =
      let word = new_word s places p 0 (omega (arith, low)) in
      let stop : stop_at m 0 ≡ length m = omega (arith, long, (module_parts s whole).whole) in
      step_good (record_at n m max_depth) (λ a z. list_at (record_at n m max_depth) m (length m) a (length m) z) m 0 (length m) (must_be a_module Nothing) refl refl module_good
      ((λ j. list_at (record_at n m max_depth) m (length m) (stop j) (length m) (either_way (eqb (class_at m 0) a_module) Nothing j)) ∙ nothing_good)

  same_count : name_count m ≡ name_count s
  unfolding name_count names_of
  same_count = sym (length-map (name_places m) (name_bytes m)) ∙ ap length (new_names s places p whole) ∙ length-map (name_places s) (name_bytes s)

  record_good : layout_of m ≡ Good
  unfolding layout_of
  record_good =
      let some : eqb (length m) 0 ≡ false = ne_eqb (length m) 0 (λ (z : length m ≡ 0). omega (arith, long, whole.some)) in
      let few : ltb max_bytes (length m) ≡ false = le-ltb max_bytes (length m) (omega (arith, long, few_bytes s p.layout)) in
      (λ j. answer_if (some j) Good (λ _. answer_if (few j) (Err TooLong) (λ _. list_at (record_at (name_count m) m max_depth) m (suc (length m)) 0 (length m) OneModule)))
      ∙ ap (λ (k : ℕ). list_at (record_at k m max_depth) m (suc (length m)) 0 (length m) OneModule) same_count ∙ whole_good

-- The file of no bytes too
pub new_layout : (s places : List ℕ) → Places s places → layout_of (arranged s places) ≡ Good
new_layout s places p = go (empty_or_record s p.layout)
  where
    go : (s ≡ []) ⊎ ModuleRecord s → layout_of (arranged s places) ≡ Good
    go (inl e) = ap layout_of (still_empty s places p e) ∙ p.layout
    go (inr m) = ap layout_of (arranged_is s places p) ∙ record_good s places p m
