-- Errors that are told in words: one after another, and as a step of a walk. Assumes nothing.
use Prim.Native.Nat.{ℕ}
use mathlib.Core.Path.{◌≡◌, refl, sym, ap, ◌∙◌, subst}
use mathlib.Core.Bool.{false}
use mathlib.Core.List.{List, [], ◌∷◌, ◌++◌}
use Rattle.fallible.specs.declared.Error.{Error}
use Rattle.fallible.specs.Errors.{ErrorList, error_list, push_all}
use Rattle.meaning.specs.TypeError.{TypeError}
use Rattle.walk.specs.declared.State.{State}
use Rattle.walk.specs.Effect.{reporting, needed}
use Rattle.walk.specs.Represents.{lent, Good, Grew, Spells, SpellsAll, Told, Represents, Does}
use Rattle.walk.specs.Post.{counted, Reported, Tells, Walked}
use Rattle.walk.proofs.Laws.{grew_same, frame_none, report_last}
use Rattle.walk.proofs.Walks.{walked_room}

push_all_append : (xs ys : List Error) (l : ErrorList) → push_all (push_all l xs) ys ≡ push_all l (xs ++ ys)
unfolding push_all
push_all_append [] ys l = refl
push_all_append (x ∷ xs) ys l = push_all_append xs ys _

module _ (w : List ℕ) (c : ℕ) where
  spells_append : (es fs : List TypeError) (xs ys : List Error) → SpellsAll w c es xs → SpellsAll w c fs ys → SpellsAll w c (es ++ fs) (xs ++ ys)
  unfolding SpellsAll
  spells_append [] fs [] ys h k = k
  spells_append [] fs (x ∷ xs) ys h k = absurd h
  spells_append (e ∷ es) fs [] ys h k = absurd h
  spells_append (e ∷ es) fs (x ∷ xs) ys h k = (h.0, spells_append es fs xs ys h.1 k)

  told_append : {es fs : List TypeError} {a b d : ErrorList} → Told w c es a b → Told w c fs b d → Told w c (es ++ fs) a d
  told_append {es} {fs} {a} h k =
      record {
        told = h.told ++ k.told;
        spells = spells_append es fs h.told k.told h.spells k.spells;
        pushed = k.pushed ∙ ap (λ (l : ErrorList). push_all l k.told) h.pushed ∙ push_all_append h.told k.told a;
      }

module _ {w e : List ℕ} {st : State} where
  pub tells_none : Tells w [] e st e st
  unfolding SpellsAll push_all
  tells_none = record { list = record { told = []; spells = tt; pushed = refl }; rest = refl }

  module _ {e' : List ℕ} {st' : State} where
    pub tells_one : {d : TypeError} {x : Error} → Spells w st.rows d x → Reported e st x e' st' → Tells w (d ∷ []) e st e' st'
    unfolding SpellsAll push_all
    tells_one {x = x} s r = record { list = record { told = x ∷ []; spells = (s, tt); pushed = r.list }; rest = r.rest }

    pub tells_then : {e'' : List ℕ} {st'' : State} {a b : List TypeError} → Tells w a e st e' st' → Tells w b e' st' e'' st'' → Tells w (a ++ b) e st e'' st''
    tells_then {e''} {st''} {a} {b} p q =
        let same : st'.rows ≡ st.rows = ap (λ (s : State). s.rows) p.rest in
        let second = subst (λ (n : ℕ). Told w n b (error_list e' st'.errors) (error_list e'' st''.errors)) same q.list in
        record { list = told_append w st.rows p.list second; rest = q.rest ∙ ap (λ (s : State). counted s st''.errors) p.rest }

    pub tells_rows : {told : List TypeError} → Tells w told e st e' st' → st'.rows ≡ st.rows
    tells_rows t = ap (λ (s : State). s.rows) t.rest

    module _ {work o ix : List ℕ} {told : List TypeError} (t : Tells w told e st e' st') where
      grew_tells : Good (lent work o e w ix st) → Grew (lent work o e w ix st) (lent work o e' w ix st')
      grew_tells g = subst (λ (s : State). Grew (lent work o e w ix st) (lent work o e' w ix s)) (sym t.rest) (grew_same o e' st'.errors g)

      does_tells : Does (reporting told) (lent work o e w ix st) (lent work o e' w ix st')
      unfolding needed
      does_tells =
          subst (λ (s : State). Does (reporting told) (lent work o e w ix st) (lent work o e' w ix s)) (sym t.rest)
          (record {
            does = λ o₀ e₀ before h. subst (Represents o₀ e₀ (lent work o e' w ix (counted st st'.errors))) (report_last before told)
                (record {
                  fits = λ p.
                      let f = h.fits p in
                      record { types = f.types; few = f.few; stored = f.stored; told = told_append w st.rows f.told t.list };
                  lacks = h.lacks;
                });
          })

      -- as a step of a walk, of errors that are what was told if there is room
      pub walked_tells : {X : Type 0} {G : X → Type 0} {from to : ℕ} → Good (lent work o e w ix st) → (errors : X → List TypeError)
          → ((x : X) → G x → st.full ≡ false → told ≡ errors x) → Walked G (λ x. reporting (errors x)) from to (lent work o e w ix st) (lent work o e' w ix st')
      walked_tells g errors is =
          walked_room (record { grew = grew_tells g; frame = frame_none; does = λ x h. does_tells }) (λ x h p. ap (λ (l : List TypeError). reporting l) (is x h p))
