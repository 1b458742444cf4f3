-- A record with no fault in its layout, opened: what its head says, and that its children have no fault. The same for a list, and for a
-- whole file. Assumes nothing.
use Prim.Native.Nat.{ℕ, zero, suc, ◌+◌, ◌-◌, ◌*◌, ◌≤◌, ◌<◌, min}
use mathlib.Core.Path.{◌≡◌, refl, sym, ◌∙◌, ap, subst}
use mathlib.Core.Bool.{Bool, true, false, ◌||◌, and-false}
use mathlib.Core.List.{List, [], ◌∷◌}
use mathlib.Core.Logic.{◌⊎◌, inl, inr}
use lib.ListN.{length}
use lib.Dec.{leb, ltb, eqb}
use native.Mathlib.Omega.{arith}
use borrow.Author.Tests.{ltb-true, ltb-false, leb-true, le-leb, eqb-true, eq-eqb, ne_eqb, not-false}
use Rattle.shape.specs.Shape.{pick, shape_of, due_in, is_done, may_stand, state_after, must_be, may_be, may_be_either, nothing_due, is_between, allowed, a_module, a_names}
use Rattle.shape.specs.declared.Rule.{Rule}
use Rattle.shape.specs.declared.Rule.TheVariants.{Slot, Name, Base, Operator, Comparison}
use Rattle.shape.specs.declared.Holds.{Holds}
use Rattle.shape.specs.declared.Holds.TheVariants.{Nothing, OneModule, NamesThenItems, Items}
use Rattle.shape.specs.declared.Due.{Due}
use Rattle.shape.proofs.ShapeLaws.{and_both, module_kind}
use Rattle.record_bytes.specs.Bytes.{half_at, word_at}
use Rattle.names.specs.Names.{name_count, names_end, item_places, chain, stands}
use Rattle.layout.specs.Layout.{Layout, Good, good_head, max_bytes, max_depth, kind_at, shape_at, class_at, start_at, stop_at, is_bad, head_at, answer_if, and_then, after_head, list_at, record_at, layout_of}
use Rattle.node.specs.Fine.{FineRecord, FineList, Opened, FineNode, Enters, node_of}
use Rattle.node.specs.declared.Node.{Node}
use Rattle.node.specs.declared.Entered.{Entered}
use Rattle.layout.specs.declared.LayoutError.{LayoutError}
use Rattle.layout.specs.declared.LayoutError.TheVariants.{TooLong, Fault}
use Rattle.layout.specs.declared.Head.{Head}
use Rattle.std.proofs.Common.{Result, Ok, Err}
use Rattle.layout.proofs.LayoutLaws.{known, head_good, record_step}

pub bad_good : {A : Type 0} {e : LayoutError} → ◌≡◌ {A = Layout} (Err e) Good → A
bad_good e = absurd (cc)

pub and_then_good : (l : Layout) (f : Unit {0} → Layout) → and_then l f ≡ Good → (l ≡ Good) × (f tt ≡ Good)
and_then_good (Ok u) f e = (refl, e)
and_then_good (Err x) f e = bad_good e

-- a record whose layout is good has a level and a head
pub record Headed (n : ℕ) (s : List ℕ) (d at end : ℕ) (due : Due) : Type 0 where
  pub deep : 1 ≤ d
  pub head : Head
  pub is : head_at n s at end due ≡ Ok head
  pub inner : list_at (record_at n s (d - 1)) s (suc (length s)) head.start head.stop head.holds ≡ Good

pub headed : (n : ℕ) (s : List ℕ) (d at end : ℕ) (due : Due) → record_at n s d at end due ≡ Good → Headed n s d at end due
unfolding record_at
headed n s zero at end due e = bad_good e
headed n s (suc d) at end due e = go (head_at n s at end due) refl e
  where
    go : (h : Result Head LayoutError) → head_at n s at end due ≡ h → after_head (λ a b x. list_at (record_at n s d) s (suc (length s)) a b x) h ≡ Good → Headed n s (suc d) at end due
    go (Err x) f g = bad_good g
    go (Ok h) f g =
        let q : d ≡ suc d - 1 = omega arith in
        record { deep = omega arith; head = h; is = f; inner = rw (← q) g }

-- the same head, where another class is due too
head_other : (n : ℕ) (s : List ℕ) (at end : ℕ) (due due' : Due) (h : Head) → head_at n s at end due ≡ Ok h → may_stand due' (class_at s at) ≡ true
    → head_at n s at end due' ≡ Ok (record { start = h.start; stop = h.stop; holds = h.holds; next = state_after due' (class_at s at) })
head_other n s at end due due' h e m =
    let k = known n s at end due h e in
    let r = k.room in
    let l = k.long in
    let g = head_good n s at end due' (word_at s at) refl (omega arith) (kind_at s at) (shape_at s at) refl refl r l true (sym m) refl
    (is_bad n s 1 (shape_at s at).fields (shape_at s at).first (at + 16)) refl k.first
    (is_bad n s 2 (shape_at s at).fields (shape_at s at).second (at + 20)) refl (state_after due' (class_at s at)) k.second refl in
    let q : ◌≡◌ {A = Result Head LayoutError} (Ok (record { start = h.start; stop = h.stop; holds = h.holds; next = state_after due' (class_at s at) })) (Ok (good_head s at due')) =
    λ i. Ok (record { start = k.starts i; stop = k.stops i; holds = k.inner i; next = state_after due' (class_at s at) }) in
    sym g ∙ sym q

-- a record whose layout is good has the class that is due, and its layout is good where only that is due
own_class : (n : ℕ) (s : List ℕ) (d at end : ℕ) (due : Due) → record_at n s d at end due ≡ Good
    → (may_stand due (class_at s at) ≡ true) × (record_at n s d at end (must_be (class_at s at) Nothing) ≡ Good)
unfolding may_stand
own_class n s d at end due e =
    let h = headed n s d at end due e in
    let c = class_at s at in
    let m : may_stand (must_be c Nothing) c ≡ true = simp (eq-eqb c c refl) in
    let o = head_other n s at end due (must_be c Nothing) h.head h.is m in (
      (known n s at end due h.head h.is).class,
      record_step n s d at end (must_be c Nothing) h.deep ∙ rw o h.inner,
    )

must_class : (c e : ℕ) → may_stand (must_be c Nothing) e ≡ true → e ≡ c
unfolding may_stand
must_class c e q = go (eqb e c) refl q
  where
    go : (b : Bool) → eqb e c ≡ b → b || b ≡ true → e ≡ c
    go true f g = eqb-true e c f
    go false f g = absurd (let z : ◌≡◌ {A = ℕ} 0 1 = cc in omega arith)

pub opened : (s : List ℕ) (d at end c : ℕ) → FineRecord s d at end c → Opened s d at end c (kind_at s at) (start_at s at) (stop_at s at)
opened s d at end c f =
    let n = name_count s in
    let h = headed n s d at end (must_be c Nothing) f.ok in
    let k = known n s at end (must_be c Nothing) h.head h.is in
    let p = f.part in
    let r = k.room in
    let l = k.long in
    record {
      kinds = refl;
      starts = refl;
      stops = refl;
      belongs = must_class c (class_at s at) k.class;
      deep = h.deep;
      head = refl;
      body = omega arith;
      room = omega arith;
      ends = p.ends;
      few = p.few;
      first = k.first;
      second = k.second;
      children = record {
        part = record { starts = omega arith; ends = omega arith; few = p.few };
        fuel = suc (length s);
        ok = rw (← k.starts, ← k.stops, ← k.inner) h.inner;
      };
    }

-- the same, by what its head was read to be
pub opened_at : (s : List ℕ) (d at end c kind start stop : ℕ) → FineRecord s d at end c → kind ≡ kind_at s at → start ≡ start_at s at → stop ≡ stop_at s at → Opened s d at end c kind start stop
opened_at s d at end c kind start stop f ek ea eo = rw (ek, ea, eo) (opened s d at end c f)

-- the same, where its kind is known
pub opened_kind : (s : List ℕ) (d at end c k : ℕ) → FineRecord s d at end c → kind_at s at ≡ k → Opened s d at end c k (at + 16 + 4 * (shape_of k).fields) (stop_at s at)
opened_kind s d at end c k f e = opened_at s d at end c k (at + 16 + 4 * (shape_of k).fields) (stop_at s at) f (sym e) (ap (λ (x : ℕ). at + 16 + 4 * (shape_of x).fields) (sym e)) refl

-- what `enter` reads
pub entered : (s : List ℕ) (d at end c k len n : ℕ) → FineRecord s d at end c → k ≡ half_at s (at + 4) → n ≡ (shape_of k).fields → len ≡ word_at s at
    → Opened s d at end c k (at + 16 + 4 * n) (at + len)
entered s d at end c k len n f ek en el =
    opened_at s d at end c k (at + 16 + 4 * n) (at + len) f ek (ap (λ (x : ℕ). at + 16 + 4 * x) (en ∙ ap (λ (j : ℕ). (shape_of j).fields) ek)) (ap (λ (x : ℕ). at + x) el)

-- what `enter` answers
pub enters : (s : List ℕ) (node : Node) (c : ℕ) {k len n : ℕ} → FineNode s node c → k ≡ half_at s (node.at + 4) → n ≡ (shape_of k).fields → len ≡ word_at s node.at
    → Enters s node c (record { at = node.at; depth = node.depth; kind = k; start = node.at + 16 + 4 * n; stop = node.at + len })
enters s node c f ek en el = record { place = refl; levels = refl; opened = entered s node.depth node.at (length s) c _ _ _ f ek en el }

-- the node that was entered
pub same_node : {s : List ℕ} {node : Node} {c : ℕ} {head : Entered} → Enters s node c head → node_of head ≡ node
same_node e i = record { at = e.place i; depth = e.levels i }

-- a field that is not bad has a value that its rule allows
pub good_field : (n : ℕ) (s : List ℕ) (nth fields : ℕ) (rule : Rule) (at : ℕ) → is_bad n s nth fields rule at ≡ false → nth ≤ fields → allowed n rule (word_at s at) ≡ true
unfolding is_bad
good_field n s nth fields rule at e p = not-false (allowed n rule (word_at s at)) (simp (le-leb nth fields p) at e)

pub slot_field : (n v : ℕ) → allowed n Slot v ≡ true → v ≡ 0
unfolding allowed
slot_field n v e = eqb-true v 0 e

pub name_field : (n v : ℕ) → allowed n Name v ≡ true → v < n
unfolding allowed
name_field n v e = ltb-true v n e

between_field : (low v high : ℕ) → is_between low v high ≡ true → (low ≤ v) × (v ≤ high)
between_field low v high e = let p = and_both (leb low v) (leb v high) e in (leb-true low v p.0, leb-true v high p.1)

pub base_field : (n v : ℕ) → allowed n Base v ≡ true → (2 ≤ v) × (v ≤ 36)
unfolding allowed
base_field n v e = between_field 2 v 36 e

pub operator_field : (n v : ℕ) → allowed n Operator v ≡ true → (1 ≤ v) × (v ≤ 8)
unfolding allowed
operator_field n v e = between_field 1 v 8 e

pub comparison_field : (n v : ℕ) → allowed n Comparison v ≡ true → (1 ≤ v) × (v ≤ 5)
unfolding allowed
comparison_field n v e = between_field 1 v 5 e

-- The first record of a list with no fault, and the rest of it
pub record Split (s : List ℕ) (d at end : ℕ) (due : Due) : Type 0 where
  pub stands : may_stand due (class_at s at) ≡ true
  pub first : FineRecord s d at end (class_at s at)
  pub rest : FineList s d (stop_at s at) end (state_after due (class_at s at))

pub split : (s : List ℕ) (d at end : ℕ) (st : Holds) (due : Due) → due_in st ≡ due → is_done due at end ≡ false → FineList s d at end st → Split s d at end due
unfolding list_at
split s d at end st due ed es l = fuelled l.fuel l.ok
  where
    go : (m : ℕ) (u : Bool) → answer_if u (Err (Fault at)) (λ _. and_then (record_at (name_count s) s d at end due) (λ _. list_at (record_at (name_count s) s d) s m (stop_at s at) end (state_after due (shape_at s at).class))) ≡ Good
        → Split s d at end due
    go m true e = bad_good e
    go m false e =
        let q = and_then_good (record_at (name_count s) s d at end due) (λ _. list_at (record_at (name_count s) s d) s m (stop_at s at) end (state_after due (shape_at s at).class)) e in
        let o = own_class (name_count s) s d at end due q.0 in
        let f : FineRecord s d at end (class_at s at) = record { part = l.part; ok = o.1 } in
        let p = opened s d at end (class_at s at) f in
        record { stands = o.0; first = f; rest = record { part = record { starts = p.room; ends = l.part.ends; few = l.part.few }; fuel = m; ok = q.1 } }

    fuelled : (m : ℕ) → list_at (record_at (name_count s) s d) s m at end st ≡ Good → Split s d at end due
    fuelled zero e = bad_good e
    fuelled (suc m) e = go m (eqb due.class 0) (simp (ed, es) at e)

-- where a record of one class is due: it has that class, and the state after it is known
pub record SplitOne (s : List ℕ) (d at end c : ℕ) (next : Holds) : Type 0 where
  pub first : FineRecord s d at end c
  pub rest : FineList s d (stop_at s at) end next

one_of : (s : List ℕ) (d at end c : ℕ) (due : Due) (next : Holds) → may_stand due (class_at s at) ≡ may_stand (must_be c Nothing) (class_at s at) → state_after due c ≡ next
    → Split s d at end due → SplitOne s d at end c next
one_of s d at end c due next em en p =
    let e : class_at s at ≡ c = must_class c (class_at s at) (sym em ∙ p.stands) in
    record {
      first = subst (λ (x : ℕ). FineRecord s d at end x) e p.first;
      rest = subst (λ (x : Holds). FineList s d (stop_at s at) end x) (ap (λ (x : ℕ). state_after due x) e ∙ en) p.rest;
    }

after_one : (c : ℕ) (h g : Holds) → pick (eqb c c) h g ≡ h
after_one c h g = simp (eq-eqb c c refl)

-- a record that must stand there
pub split_must : (s : List ℕ) (d at end : ℕ) (st : Holds) (c : ℕ) (next : Holds) → due_in st ≡ must_be c next → FineList s d at end st → SplitOne s d at end c next
unfolding may_stand state_after is_done
split_must s d at end st c next e l = one_of s d at end c (must_be c next) next refl (after_one c next next) (split s d at end st (must_be c next) e refl l)

-- a record that may stand there, where bytes remain
pub split_may : (s : List ℕ) (d at end : ℕ) (st : Holds) (c : ℕ) (next : Holds) → due_in st ≡ may_be c next → (at ≡ end → ⊥) → FineList s d at end st → SplitOne s d at end c next
unfolding may_stand state_after is_done
split_may s d at end st c next e q l = one_of s d at end c (may_be c next) next refl (after_one c next next) (split s d at end st (may_be c next) e (ne_eqb at end q) l)

-- a record of either class, where bytes remain: by the class that it has
pub split_either : (s : List ℕ) (d at end : ℕ) (st : Holds) (due : Due) → due_in st ≡ due → due.free ≡ false → (at ≡ end → ⊥) → FineList s d at end st → Split s d at end due
unfolding is_done
split_either s d at end st due e f q l = split s d at end st due e (simp (f, ne_eqb at end q, and-false)) l

-- and it has one of the two
pub either_class : (c o e : ℕ) (h g : Holds) → may_stand (may_be_either c h o g) e ≡ true → (e ≡ c) ⊎ (e ≡ o)
unfolding may_stand
either_class c o e h g q = go (eqb e c) refl q
  where
    go : (b : Bool) → eqb e c ≡ b → b || eqb e o ≡ true → (e ≡ c) ⊎ (e ≡ o)
    go true f r = inl (eqb-true e c f)
    go false f r = inr (eqb-true e o r)

-- where nothing more is due, nothing is left
pub ended : (s : List ℕ) (d at end : ℕ) (st : Holds) → due_in st ≡ nothing_due → FineList s d at end st → at ≡ end
unfolding list_at is_done
ended s d at end st e l = fuelled l.fuel l.ok
  where
    go : (b : Bool) → eqb at end ≡ b → answer_if b Good (λ _. Err (Fault at)) ≡ Good → at ≡ end
    go true f g = eqb-true at end f
    go false f g = bad_good g

    fuelled : (m : ℕ) → list_at (record_at (name_count s) s d) s m at end st ≡ Good → at ≡ end
    fuelled zero q = bad_good q
    fuelled (suc m) q = go (eqb at end) refl (simp e at q)

-- a record with no fault is one of a chain
pub fine_stands : (s : List ℕ) (d at end c : ℕ) → FineRecord s d at end c → stands s at end ≡ true
unfolding stands
fine_stands s d at end c f =
    let o = opened s d at end c f in
    let l = o.body in
    let r = o.room in
    simp (le-leb (at + 16) end (omega arith), le-leb 16 (word_at s at) (omega arith), le-leb (at + word_at s at) end r)

-- A file of some bytes with no fault: it is one module record
pub record ModuleRecord (s : List ℕ) : Type 0 where
  pub layout : layout_of s ≡ Good
  pub some : 1 ≤ length s

pub empty_or_record : (s : List ℕ) → layout_of s ≡ Good → (s ≡ []) ⊎ ModuleRecord s
empty_or_record [] e = inl refl
empty_or_record (x ∷ s) e = inr (record { layout = e; some = omega arith })

-- The module is the whole file, its names come first, then its items
pub record ModuleParts (s : List ℕ) : Type 0 where
  pub few : length s ≤ max_bytes
  pub whole : word_at s 0 ≡ length s
  pub names : FineRecord s 63 16 (length s) a_names
  pub items : FineList s 63 (16 + word_at s 16) (length s) Items

pub module_list : (s : List ℕ) → ModuleRecord s → FineList s max_depth 0 (length s) OneModule
unfolding layout_of
module_list s m = go (eqb (length s) 0) refl (ltb max_bytes (length s)) refl m.layout
  where
    go : (b : Bool) → eqb (length s) 0 ≡ b → (c : Bool) → ltb max_bytes (length s) ≡ c
        → answer_if b Good (λ _. answer_if c (Err TooLong) (λ _. list_at (record_at (name_count s) s max_depth) s (suc (length s)) 0 (length s) OneModule)) ≡ Good
        → FineList s max_depth 0 (length s) OneModule
    go true e c f g = absurd (omega (arith, m.some, eqb-true (length s) 0 e))
    go false e true f g = bad_good g
    go false e false f g = record { part = record { starts = omega arith; ends = omega arith; few = ltb-false max_bytes (length s) f }; fuel = suc (length s); ok = g }

pub module_parts : (s : List ℕ) → ModuleRecord s → ModuleParts s
unfolding shape_of due_in
module_parts s e =
    let n = length s in
    let m = split_must s max_depth 0 n OneModule a_module Nothing refl (module_list s e) in
    let w : 0 + word_at s 0 ≡ n = ended s max_depth (stop_at s 0) n Nothing refl m.rest in
    let k = module_kind (kind_at s 0) (opened s max_depth 0 n a_module m.first).belongs in
    let o = opened_kind s max_depth 0 n a_module 1 m.first k in
    let p = split_must s 63 16 (stop_at s 0) NamesThenItems a_names Items refl o.children in
    record {
      few = o.few;
      whole = omega arith;
      names = subst (λ (x : ℕ). FineRecord s 63 16 x a_names) w p.first;
      items = subst (λ (x : ℕ). FineList s 63 (16 + word_at s 16) x Items) w p.rest;
    }

-- The record of the names lies in the file, and ends where the chain of the names does
pub record NamesRoom (s : List ℕ) : Type 0 where
  pub fits : 20 ≤ length s
  pub low : 32 ≤ 16 + word_at s 16
  pub inside : 16 + word_at s 16 ≤ length s
  pub end : names_end s ≡ 16 + word_at s 16

pub names_room : (s : List ℕ) → ModuleRecord s → NamesRoom s
unfolding names_end
names_room s m =
    let o = opened s 63 16 (length s) a_names (module_parts s m).names in
    let h = o.head in
    let b = o.body in
    let r = o.room in
    record { fits = omega arith; low = omega arith; inside = r; end = omega arith }

-- Of every file with no fault, that of no bytes too: its items follow its names, to its end
pub names_inside : (s : List ℕ) → names_end s ≤ length s
unfolding names_end
names_inside s = omega arith

pub names_end_none : names_end [] ≡ 0
names_end_none = omega (arith, names_inside [])

pub few_bytes : (s : List ℕ) → layout_of s ≡ Good → length s ≤ max_bytes
few_bytes s e = go (empty_or_record s e)
  where
    go : (s ≡ []) ⊎ ModuleRecord s → length s ≤ max_bytes
    go (inl n) = omega (arith, ap length n)
    go (inr m) = (module_parts s m).few

pub items_list : (s : List ℕ) → layout_of s ≡ Good → FineList s 63 (names_end s) (length s) Items
unfolding list_at due_in is_done
items_list s e = go (empty_or_record s e)
  where
    none : FineList [] 63 0 0 Items
    none = record { part = record { starts = omega arith; ends = omega arith; few = omega arith }; fuel = 1; ok = refl }

    go : (s ≡ []) ⊎ ModuleRecord s → FineList s 63 (names_end s) (length s) Items
    go (inl n) = subst (λ (x : List ℕ). FineList x 63 (names_end x) (length x) Items) (sym n) (subst (λ (k : ℕ). FineList [] 63 k 0 Items) (sym names_end_none) none)
    go (inr m) = subst (λ (k : ℕ). FineList s 63 k (length s) Items) (sym (names_room s m).end) (module_parts s m).items

pub item_chain : (s : List ℕ) → layout_of s ≡ Good → item_places s ≡ chain (length s) s (names_end s) (length s)
unfolding item_places
item_chain s e = ap (chain (length s) s (names_end s)) (go (empty_or_record s e))
  where
    go : (s ≡ []) ⊎ ModuleRecord s → min (word_at s 0) (length s) ≡ length s
    go (inl n) = omega (arith, ap length n)
    go (inr m) = let w = (module_parts s m).whole in omega arith

-- What `items_start` asks for and answers
pub start_of_none : (s : List ℕ) → length s ≡ 0 → 0 ≡ names_end s
start_of_none s e = omega (arith, names_inside s)

module _ (s : List ℕ) (e : layout_of s ≡ Good) (some : length s ≡ 0 → ⊥) where
  has_bytes : ModuleRecord s
  has_bytes = record { layout = e; some = omega arith }

  pub start_fits : 16 + 4 ≤ length s
  start_fits = (names_room s has_bytes).fits

  pub start_said : {w : ℕ} → w ≡ word_at s 16 → 16 + w ≡ names_end s
  start_said q = ap (λ (k : ℕ). 16 + k) q ∙ sym (names_room s has_bytes).end
