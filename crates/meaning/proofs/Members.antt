-- What holds of every member of lists, joined or of what each member gives. Assumes nothing.
use mathlib.Core.List.{List, [], ◌∷◌, ◌++◌, map}
use Rattle.meaning.specs.Context.{All, each}

module _ {A : Type 0} (P : A → Type 0) where
  pub all_join : (a b : List A) → All P a → All P b → All P (a ++ b)
  unfolding All
  all_join [] b p q = q
  all_join (x ∷ a) b p q = (p.0, all_join a b p.1 q)

  pub all_each : {B : Type 0} (Q : B → Type 0) (f : B → List A) → ((x : B) → Q x → All P (f x)) → (l : List B) → All Q l → All P (each f l)
  unfolding All each
  all_each Q f h [] p = tt
  all_each Q f h (x ∷ l) p = all_join (f x) (each f l) (h x p.0) (all_each Q f h l p.1)

  pub all_mapped : {B : Type 0} (Q : B → Type 0) (f : B → A) → ((x : B) → Q x → P (f x)) → (l : List B) → All Q l → All P (map f l)
  unfolding All
  all_mapped Q f h [] p = tt
  all_mapped Q f h (x ∷ l) p = (h x p.0, all_mapped Q f h l p.1)
