-- Demand 3 over the items' trees: in another order the context after pass 1 is the same, and the errors and types of either pass are permuted.
-- What the rules of bodies are does not matter here: pass 2 of an item is any function of the context and the item.
use Prim.Native.Nat.{ℕ}
use mathlib.Core.Path.{◌≡◌, refl, sym, ◌∙◌, ap, ap₂, subst, subst₂}
use mathlib.Core.Bool.{Bool, false}
use mathlib.Core.Option.{none}
use mathlib.Core.List.Perm
use mathlib.Core.List.Nodup
use mathlib.Core.List.{List, [], ◌∷◌, ◌++◌, map, Mem, Nodup, Subset, Disjoint, Nodup-append, mem-append_left, mem-append_right}
use mathlib.Core.List.Permᴰ
use mathlib.Core.List.{Permᴰ}
use Rattle.types.specs.Ty.{parts, fixed_types}
use Rattle.trees.specs.Tree.{Item}
use Rattle.meaning.specs.Context.{TypeMap, insert_all, each, ModuleContext, or_else}
use Rattle.meaning.specs.Module.{is_taken, alias_entries, global_entries, declare, Declaration, declarations, declare_all, empty_context, module_context, entry_type, item_errors, item_types, module_errors, types_met, needed_types}
use Rattle.meaning.specs.JoiningOrder.{names_in_declared_types, alias_name, global_name}
use Rattle.meaning.proofs.Permutation.{along, each_permuted}
use Rattle.meaning.proofs.Agree.{Declared, declared, SameNamed, same_declared, free_declared, alias_keys, global_keys}
use Rattle.meaning.proofs.Maps.{keys, all_other, all_past}
use Rattle.meaning.proofs.Places.{Precede}

-- The context after what items declare
abbrev after : ModuleContext → Declared → ModuleContext
after ctx d = record { built_ins = ctx.built_ins; type_aliases = insert_all d.aliases ctx.type_aliases; globals = insert_all d.globals ctx.globals }

unfoldable after_all : ModuleContext → List Declared → ModuleContext
after_all ctx [] = ctx
after_all ctx (d ∷ ds) = after_all (after ctx d) ds

-- What pass 1 takes from an item in the context that it meets
abbrev as_met : Declaration → Declared
as_met d = declared d.met (is_taken d.met.type_aliases d.item) d.item

pass1 : (ctx : ModuleContext) (is : List Item) → declare_all ctx is ≡ after_all ctx (map as_met (declarations ctx is))
unfolding declare_all declarations after_all
pass1 ctx [] = refl
pass1 ctx (i ∷ is) = pass1 (declare ctx i) is

-- An item changes no alias but that of its own name
alias_other : (known : ModuleContext) (taken : Bool) (i : Item) (types : TypeMap) (name : ℕ) → ¬ Mem name (alias_name i)
    → insert_all (alias_entries known taken i) types name ≡ types name
alias_other known taken i types name h = all_other (alias_entries known taken i) types name (λ m. h (alias_keys known taken i name m))

-- So a name that no later alias has keeps its type, and built-in types stay
kept : (ctx : ModuleContext) (is : List Item) (name : ℕ) → ¬ Mem name (each alias_name is) → (declare_all ctx is).type_aliases name ≡ ctx.type_aliases name
unfolding declare_all each
kept ctx [] name h = refl
kept ctx (i ∷ is) name h =
    kept (declare ctx i) is name (λ m. h (mem-append_right (alias_name i) m))
    ∙ alias_other ctx (is_taken ctx.type_aliases i) i ctx.type_aliases name (λ m. h (mem-append_left (each alias_name is) m))

pub built_ins_kept : (ctx : ModuleContext) (is : List Item) → (declare_all ctx is).built_ins ≡ ctx.built_ins
unfolding declare_all
built_ins_kept ctx [] = refl
built_ins_kept ctx (i ∷ is) = built_ins_kept (declare ctx i) is

-- So pass 1 meets each item as if all was declared already and its name was free
settled : (ctx : ModuleContext) (is : List Item) → Precede is → Nodup (each alias_name is)
    → ((name : ℕ) → Mem name (each alias_name is) → ctx.type_aliases name ≡ none)
    → map as_met (declarations ctx is) ≡ map (declared (declare_all ctx is) false) is
unfolding declarations declare_all Precede each
settled ctx [] p u free = refl
settled ctx (i ∷ is) p u free =
    let later = declare_all ctx (i ∷ is) in
    let built_ins = sym (built_ins_kept ctx (i ∷ is)) in
    let named : SameNamed ctx later (names_in_declared_types i) =
    λ name m. ap₂ or_else (sym (kept ctx (i ∷ is) name (p.0 name m))) (ap (λ (b : TypeMap). b name) built_ins) in
    let stays : (name : ℕ) → Mem name (each alias_name is) → (declare ctx i).type_aliases name ≡ ctx.type_aliases name =
    λ name m. alias_other ctx (is_taken ctx.type_aliases i) i ctx.type_aliases name (λ x. (Nodup-append.0 u).2 name x m) in
    ap₂ (λ d ds. d ∷ ds)
    (free_declared ctx ctx.type_aliases i (λ name m. free name (mem-append_left (each alias_name is) m)) ∙ same_declared ctx later false i built_ins named)
    (settled (declare ctx i) is p.1 (Nodup.of_append_right (alias_name i) u) (λ name m. stays name m ∙ free name (mem-append_right (alias_name i) m)))

-- What items declare in a context that is known beforehand
abbrev declared_in : ModuleContext → List Item → List Declared
declared_in known is = map (declared known false) is

declared_kept : (known ctx : ModuleContext) (is : List Item) (name : ℕ) → ¬ Mem name (each alias_name is)
    → (after_all ctx (declared_in known is)).type_aliases name ≡ ctx.type_aliases name
unfolding after_all each
declared_kept known ctx [] name h = refl
declared_kept known ctx (i ∷ is) name h =
    declared_kept known (after ctx (declared known false i)) is name (λ m. h (mem-append_right (alias_name i) m))
    ∙ alias_other known false i ctx.type_aliases name (λ m. h (mem-append_left (each alias_name is) m))

declared_built_ins : (ctx : ModuleContext) (ds : List Declared) → (after_all ctx ds).built_ins ≡ ctx.built_ins
unfolding after_all
declared_built_ins ctx [] = refl
declared_built_ins ctx (d ∷ ds) = declared_built_ins (after ctx d) ds

-- Only one context is what the items declare in it
module _ (c d : ModuleContext) where
  unique : (ctx : ModuleContext) (is : List Item) → Precede is → c ≡ after_all ctx (declared_in c is) → d ≡ after_all ctx (declared_in d is) → c ≡ d
  unfolding after_all Precede
  unique ctx [] p x y = x ∙ sym y
  unique ctx (i ∷ is) p x y =
      unique (after ctx (declared c false i)) is p.1 x (y ∙ ap (λ e. after_all (after ctx e) (declared_in d is)) (sym first))
    where
      named : (k : ModuleContext) → k ≡ after_all ctx (declared_in k (i ∷ is)) → (name : ℕ) → Mem name (names_in_declared_types i)
          → k.type_aliases name ≡ ctx.type_aliases name
      named k z name m = ap (λ (q : ModuleContext). q.type_aliases name) z ∙ declared_kept k ctx (i ∷ is) name (p.0 name m)

      built_ins : (k : ModuleContext) → k ≡ after_all ctx (declared_in k (i ∷ is)) → k.built_ins ≡ ctx.built_ins
      built_ins k z = ap (λ (q : ModuleContext). q.built_ins) z ∙ declared_built_ins ctx (declared_in k (i ∷ is))

      same_built_ins : c.built_ins ≡ d.built_ins
      same_built_ins = built_ins c x ∙ sym (built_ins d y)

      first : declared c false i ≡ declared d false i
      first =
          same_declared c d false i same_built_ins
          (λ name m. ap₂ or_else (named c x name m ∙ sym (named d y name m)) (ap (λ (b : TypeMap). b name) same_built_ins))

-- No two functions or variables share a name, and no two non-internal aliases do
pub record Distinct (is : List Item) : Type 0 where
  pub globals : Nodup (each global_name is)
  pub aliases : Nodup (each alias_name is)

distinct_later : (a : Item) (l : List Item) → Distinct (a ∷ l) → Distinct l
unfolding each
distinct_later a l u =
    record { globals = Nodup.of_append_right (global_name a) u.globals; aliases = Nodup.of_append_right (alias_name a) u.aliases }

still_distinct : {l r : List Item} → Permᴰ l r → Distinct l → Distinct r
still_distinct p u =
    record { globals = Perm.nodup ∣ each_permuted global_name p ∣₁ u.globals; aliases = Perm.nodup ∣ each_permuted alias_name p ∣₁ u.aliases }

apart : (a b c d rest : List ℕ) → Subset a c → Subset b d → Nodup (c ++ (d ++ rest)) → Disjoint a b
apart a b c d rest p q u name m n = (Nodup-append.0 u).2 name (p name m) (mem-append_left rest (q name n))

-- Then what the items declare may come in any order
module _ (known : ModuleContext) where
  swapped : (a b : Item) (l : List Item) → Distinct (a ∷ b ∷ l) → (ctx : ModuleContext)
      → after (after ctx (declared known false b)) (declared known false a) ≡ after (after ctx (declared known false a)) (declared known false b)
  unfolding each
  swapped a b l u ctx =
      let aliasesA = alias_entries known false a in
      let aliasesB = alias_entries known false b in
      let globalsA = global_entries known a in
      let globalsB = global_entries known b in
      let aliases = all_past aliasesA aliasesB ctx.type_aliases
      (apart (keys aliasesA) (keys aliasesB) (alias_name a) (alias_name b) (each alias_name l)
      (alias_keys known false a) (alias_keys known false b) u.aliases) in
      let globals = all_past globalsA globalsB ctx.globals
      (apart (keys globalsA) (keys globalsB) (global_name a) (global_name b) (each global_name l)
      (global_keys known a) (global_keys known b) u.globals) in
      λ i. record { built_ins = ctx.built_ins; type_aliases = aliases i; globals = globals i }

  any_order : {is js : List Item} → Permᴰ is js → Distinct is → (ctx : ModuleContext)
      → after_all ctx (declared_in known is) ≡ after_all ctx (declared_in known js)
  unfolding after_all
  any_order =
      along (λ is js. Distinct is → (ctx : ModuleContext) → after_all ctx (declared_in known is) ≡ after_all ctx (declared_in known js)) (λ u ctx. refl)
      (λ a l r p e u ctx. e (distinct_later a l u) (after ctx (declared known false a)))
      (λ a b l u ctx. ap (λ x. after_all x (declared_in known l)) (sym (swapped a b l u ctx)))
      (λ l r s p e f u ctx. e u ctx ∙ f (still_distinct p u) ctx)

each_map : {A B C : Type 0} (f : B → List C) (g : A → B) (l : List A) → each (λ a. f (g a)) l ≡ each f (map g l)
unfolding each
each_map f g [] = refl
each_map f g (a ∷ l) = ap (λ x. f (g a) ++ x) (each_map f g l)

-- What demand 3 supposes of a module's items
pub record SupposedItems (is : List Item) : Type 0 where
  pub distinct : Distinct is
  pub precede : Precede is

-- Pass 1 of a whole module
module _ (built_ins : TypeMap) where
  abbrev start : ModuleContext
  start = empty_context built_ins

  whole_settled : (is : List Item) → SupposedItems is → map as_met (declarations start is) ≡ declared_in (module_context built_ins is) is
  whole_settled is s = settled start is s.precede s.distinct.aliases (λ name m. refl)

  whole : (is : List Item) → SupposedItems is → module_context built_ins is ≡ after_all start (declared_in (module_context built_ins is) is)
  whole is s = pass1 start is ∙ ap (after_all start) (whole_settled is s)

  -- Two orders: the same context
  module _ (is js : List Item) (permuted : Permᴰ is js) (si : SupposedItems is) (sj : SupposedItems js) where
    pub same_context : module_context built_ins is ≡ module_context built_ins js
    same_context =
        unique (module_context built_ins is) (module_context built_ins js) start is si.precede (whole is si)
        (whole js sj ∙ sym (any_order (module_context built_ins js) permuted si.distinct start))

    -- What is taken from each item in either pass, over the whole module
    in_pass1 : {B : Type 0} (f : Declared → List B)
        → Permᴰ (each (λ d. f (as_met d)) (declarations start is)) (each (λ d. f (as_met d)) (declarations start js))
    in_pass1 f =
        subst₂ Permᴰ
        (sym (each_map f as_met (declarations start is) ∙ ap (each f) (whole_settled is si ∙ ap (λ c. declared_in c is) same_context)))
        (sym (each_map f as_met (declarations start js) ∙ ap (each f) (whole_settled js sj)))
        (each_permuted f (Permᴰ.map (declared (module_context built_ins js) false) permuted))

    in_pass2 : {B : Type 0} (g : ModuleContext → Item → List B)
        → Permᴰ (each (g (module_context built_ins is)) is) (each (g (module_context built_ins js)) js)
    in_pass2 g =
        subst (λ c. Permᴰ (each (g c) is) (each (g (module_context built_ins js)) js)) (sym same_context)
        (each_permuted (g (module_context built_ins js)) permuted)

    in_both : {B : Type 0} (f : Declared → List B) (g : ModuleContext → Item → List B)
        → Permᴰ (each (λ d. f (as_met d)) (declarations start is) ++ each (g (module_context built_ins is)) is)
        (each (λ d. f (as_met d)) (declarations start js) ++ each (g (module_context built_ins js)) js)
    in_both f g =
        Permᴰ.trans (Permᴰ.append_right (each (g (module_context built_ins is)) is) (in_pass1 f))
        (Permᴰ.append_left (each (λ d. f (as_met d)) (declarations start js)) (in_pass2 g))

    pub errors_permuted : Permᴰ (module_errors built_ins is) (module_errors built_ins js)
    unfolding module_errors
    errors_permuted = in_both (λ d. d.errors) item_errors

    pub types_permuted : Permᴰ (needed_types built_ins is) (needed_types built_ins js)
    unfolding needed_types types_met
    types_permuted =
        Permᴰ.append_left fixed_types
        (each_permuted parts (in_both (λ d. d.converted ++ map entry_type d.aliases ++ map entry_type d.globals) item_types))
