-- The parameters of a function, one after the other: each is an argument that the working words know. Assumes nothing.
use Prim.Native.Nat.{ℕ, ◌+◌, ◌-◌, ◌*◌, ◌≤◌, ◌<◌}
use mathlib.Core.Path.{◌≡◌, refl, sym, ap, ◌∙◌, subst}
use mathlib.Core.Bool.{true}
use mathlib.Core.List.{List, [], ◌∷◌, ◌++◌, map, append-nil, append_assoc, map-append}
use mathlib.Core.Logic.{inr}
use native.Mathlib.Omega.{arith}
use lib.ListN.{length, set, length-set}
use Rattle.types.specs.Ty.{void}
use Rattle.shape.specs.Shape.{a_statement}
use Rattle.shape.specs.declared.Holds.TheVariants.{Parameters}
use Rattle.record_bytes.specs.Bytes.{Read, half_at, word_at}
use Rattle.names.specs.Names.{name_count}
use Rattle.layout.specs.Layout.{kind_at, stop_at}
use Rattle.node.specs.Fine.{FineList}
use Rattle.trees.specs.Tree.{Parameter}
use Rattle.trees.specs.Record.{type_at, parameters_at, body_at}
use Rattle.names.specs.declared.BuiltIns.{BuiltIns}
use Rattle.node.proofs.Open.{opened}
use Rattle.trees.proofs.ItemTrees.{ParameterAt, parameters_none, parameter_at, body_at_lem}
use Rattle.shape.proofs.Cases.{by_number}
use Rattle.meaning.specs.Context.{TypeMap, no_types, Entry, insert, insert_all, ModuleContext, context, each}
use Rattle.meaning.specs.Convert.{convert_node_type}
use Rattle.meaning.specs.Module.{parameter_entry, parameter_errors, parameter_slots, argument_map}
use Rattle.walk.specs.declared.State.{State}
use Rattle.walk.specs.Effect.{Effect, nothing, ◌then◌}
use Rattle.walk.specs.Words.{word_place}
use Rattle.walk.specs.Represents.{Lent, lent, Scope}
use Rattle.walk.specs.Post.{Walked}
use Rattle.walk.proofs.Sets.{each_append}
use Rattle.walk.proofs.Laws.{scope_later, then_nothing}
use Rattle.walk.proofs.Walks.{walked_none, walked_then, walked_as, walked_is, walked_at, walked_wider}
use Rattle.walk.proofs.Scopes.{walked_set, scope_argument}
use Rattle.convert.specs.Convert.{Resolves, visiting}
use Rattle.convert.specs.Post.{Ready, Converted}
use Rattle.convert.proofs.Visits.{visit_then}
use Rattle.expression.proofs.Visits.{visit_steps}
use Rattle.items.specs.Post.{Outside, knowing, ParametersChecked}

-- One argument more
insert_last : (es : List Entry) (e : Entry) (map : TypeMap) → insert_all (es ++ (e ∷ [])) map ≡ insert e (insert_all es map)
unfolding insert_all
insert_last [] e map = refl
insert_last (x ∷ es) e map = insert_last es e (insert x map)

argument_last : (m : ModuleContext) (ps : List Parameter) (p : Parameter) → argument_map m (ps ++ (p ∷ [])) ≡ insert (parameter_entry m p) (argument_map m ps)
argument_last m ps p =
    ap (λ (l : List Entry). insert_all l no_types) (map-append (parameter_entry m) ps (p ∷ [])) ∙ insert_last (map (parameter_entry m) ps) (parameter_entry m p) no_types

-- For one member more
each_last : {A B : Type 0} (f : A → List B) (l : List A) (x : A) → each f (l ++ (x ∷ [])) ≡ each f l ++ f x
unfolding each
each_last f l x = each_append f l (x ∷ []) ∙ ap (λ (y : List _). each f l ++ y) (append-nil (f x))

-- What parameters do
abbrev visits : List Parameter → (steps : ℕ) → ModuleContext → Effect
visits ps steps m = visiting true (each (parameter_slots m) ps) (each (parameter_errors m) ps) steps

module _ (s : List ℕ) (names : BuiltIns) (d from end : ℕ) where
  -- The parameters before `at` are checked
  pub record Entering (at : ℕ) (A C : Lent) : Type 0 where
    pub low : from ≤ at
    pub fine : FineList s d at end Parameters
    pub ready : Ready s C
    pub wide : length C.work ≡ length A.work
    pub done : List Parameter
    pub parameters : parameters_at s d from end ≡ done ++ parameters_at s d at end
    pub body : body_at s d from end ≡ body_at s d at end
    pub walked : Walked (Outside s names A) (visits done (at - from)) from at A C
    pub scope : (m : ModuleContext) → Outside s names A m → Scope C (knowing m done)

  pub entering_start : {A : Lent} → FineList s d from end Parameters → Ready s A → Entering from A A
  unfolding each insert_all
  entering_start f ready =
      record {
        low = omega arith;
        fine = f;
        ready = ready;
        wide = refl;
        done = [];
        parameters = refl;
        body = refl;
        walked = walked_as (walked_none ready.good) (λ m. visit_steps [] [] 0 (from - from) (omega arith));
        scope = λ m h. h.scope;
      }

  module _ {at : ℕ} {A C : Lent} (c : Entering at A C) where
    -- No parameter is left
    checked : parameters_at s d at end ≡ [] → (at < end → kind_at s at ≡ 85 → ⊥) → ParametersChecked s names d from end at A C
    checked none last =
        let all : c.done ≡ parameters_at s d from end = sym (c.parameters ∙ ap (λ (l : List Parameter). c.done ++ l) none ∙ append-nil c.done) in
        record {
          wide = c.wide;
          low = c.low;
          left = record { fine = c.fine; last = last };
          same = c.body;
          walked = subst (λ (l : List Parameter). Walked (Outside s names A) (visits l (at - from)) from at A C) all c.walked;
          scope = λ m h. subst (λ (l : List Parameter). Scope C (knowing m l)) all (c.scope m h);
        }

    pub entering_end : end ≤ at → ParametersChecked s names d from end at A C
    entering_end p =
        let here : at ≡ end = omega (arith, c.fine.part.starts) in
        checked (ap (λ (x : ℕ). parameters_at s d x end) here ∙ (parameters_none s d end).0) (λ l. absurd (omega arith))

    module _ (more : at < end) where
      pub head_room : at + 16 ≤ length s
      head_room =
          by_number (kind_at s at) 85 (λ e. let p = parameter_at s d at end more c.fine e in omega (arith, p.room.head, p.room.ends))
          (λ ne. let o = opened s d at (length s) a_statement (body_at_lem s d at end more c.fine ne).fine in omega (arith, o.head, o.body, o.room))

      module _ {k : ℕ} (read : Read (half_at s (at + 4)) 16 k) where
        pub entering_body : (k ≡ 85 → ⊥) → ParametersChecked s names d from end at A C
        entering_body ne =
            let other : kind_at s at ≡ 85 → ⊥ = (λ e. ne (read.is ∙ e)) in
            checked (body_at_lem s d at end more c.fine other).parameters (λ l. other)

        pub parameter : k ≡ 85 → ParameterAt s d at end
        parameter e = parameter_at s d at end more c.fine (sym read.is ∙ e)

  module _ {at : ℕ} {A : Lent} {work o e w ix : List ℕ} {st : State} (c : Entering at A (lent work o e w ix st)) (p : ParameterAt s d at end) where
    abbrev C : Lent
    C = lent work o e w ix st

    abbrev now : Parameter
    now = record { name = word_at s (at + 16); type = type_at s (d - 1) (at + 20) }

    pub entering_room : word_place (word_at s (at + 16)) 3 < length work
    entering_room = omega (arith, p.named, c.ready.wide)

    pub entering_on : {o₁ e₁ w₁ ix₁ : List ℕ} {st₁ : State} {r : ℕ}
        → Converted s names (type_at s (d - 1) (at + 20)) (at + 20) (stop_at s (at + 20)) true C (lent work o₁ e₁ w₁ ix₁ st₁) r
        → (name : ℕ) → Read (word_at s (at + 16)) 32 name → (work' : List ℕ) → work' ≡ set work (word_place name 3) r
        → (next : ℕ) → next ≡ stop_at s at → Entering next A (lent work' o₁ e₁ w₁ ix₁ st₁)
    entering_on {o₁} {e₁} {w₁} {ix₁} {st₁} {r} h name read work' q next is =
        subst (λ (x : ℕ). Entering x A (lent work' o₁ e₁ w₁ ix₁ st₁)) (sym is)
        (subst (λ (x : List ℕ). Entering (stop_at s at) A (lent x o₁ e₁ w₁ ix₁ st₁)) (sym (q ∙ ap (λ (x : ℕ). set work (word_place x 3) r) read.is)) on)
      where
        n : ℕ
        n = word_at s (at + 16)

        D : Lent
        D = lent work o₁ e₁ w₁ ix₁ st₁

        given : (m : ModuleContext) → Outside s names A m → Resolves s names C (knowing m c.done)
        given m g = record { scope = c.scope m g; built_ins = g.built_ins }

        stop : ℕ
        stop = stop_at s at

        type : Walked (λ m. Resolves s names C (knowing m c.done)) (λ m. visiting true (parameter_slots m now) (parameter_errors m now) (stop_at s (at + 20) - (at + 20))) from stop C D
        type = walked_wider (omega (arith, c.low)) (omega (arith, p.stops)) (walked_at (λ (m : ModuleContext). knowing m c.done) h.walked.walked)

        argument : Walked (Outside s names A) (λ m. nothing) from stop D (lent (set work (word_place n 3) r) o₁ e₁ w₁ ix₁ st₁)
        argument = walked_set n 3 r entering_room type.grew.good (record { either = inr h.walked.is })

        effects : (m : ModuleContext) → visits c.done (at - from) m then visiting true (parameter_slots m now) (parameter_errors m now) (stop_at s (at + 20) - (at + 20)) then nothing
            ≡ visits (c.done ++ (now ∷ [])) (at - from + (stop_at s (at + 20) - (at + 20))) m
        effects m =
            then_nothing (visits c.done (at - from) m then visiting true (parameter_slots m now) (parameter_errors m now) (stop_at s (at + 20) - (at + 20)))
            ∙ visit_then true (each (parameter_slots m) c.done) (parameter_slots m now) (each (parameter_errors m) c.done) (parameter_errors m now) (at - from) (stop_at s (at + 20) - (at + 20))
            ∙ (λ i. visiting true (sym (each_last (parameter_slots m) c.done now) i) (sym (each_last (parameter_errors m) c.done now) i) (at - from + (stop_at s (at + 20) - (at + 20))))

        high : at + 20 ≤ stop
        high = omega (arith, p.room.head)

        on : Entering stop A (lent (set work (word_place n 3) r) o₁ e₁ w₁ ix₁ st₁)
        on =
            record {
              low = omega (arith, c.low, high);
              fine = p.rest;
              ready = record {
                good = argument.grew.good;
                long = omega (arith, c.ready.long, h.walked.walked.frame.long);
                wide = subst (λ (x : ℕ). 4 * name_count s ≤ x) (sym (length-set work (word_place n 3) r)) c.ready.wide;
              };
              wide = length-set work (word_place n 3) r ∙ c.wide;
              done = c.done ++ (now ∷ []);
              parameters = c.parameters ∙ ap (λ (l : List Parameter). c.done ++ l) p.parameters ∙ sym (append_assoc c.done (now ∷ []) (parameters_at s d stop end));
              body = c.body ∙ p.body;
              walked =
                  walked_as
                  (walked_is (walked_then (walked_then (walked_wider (omega arith) (omega (arith, high)) c.walked) type given) argument (λ m g. g)) effects)
                  (λ m. visit_steps (each (parameter_slots m) (c.done ++ (now ∷ []))) (each (parameter_errors m) (c.done ++ (now ∷ []))) (at - from + (stop_at s (at + 20) - (at + 20))) (stop - from)
                  (omega (arith, c.low, high, p.stops)));
              scope = λ m g.
                  subst (λ (x : TypeMap). Scope (lent (set work (word_place n 3) r) o₁ e₁ w₁ ix₁ st₁) (context m (record { variables = no_types; arguments = x; return_type = void }))) (sym (argument_last m c.done now))
                  (scope_argument n r (convert_node_type m now.type) (knowing m c.done) (scope_later h.walked.walked.grew (c.scope m g)) (h.walked.typing (knowing m c.done) (given m g)) entering_room);
            }
