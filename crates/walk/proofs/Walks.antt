-- Steps as walks, and walks one after another: of these laws a walk's promise is composed. Assumes nothing.
use Prim.Native.Nat.{ℕ, ◌+◌, ◌≤◌}
use mathlib.Core.Path.{◌≡◌, refl, sym, ap, ◌∙◌, subst}
use mathlib.Core.Bool.{true, false, ◌||◌, or_comm, or_self}
use mathlib.Core.List.Permᴰ
use mathlib.Core.List.{List, [], ◌∷◌, ◌++◌, map, append-nil, map-append, Permᴰ}
use native.Mathlib.Omega.{arith}
use Rattle.types.specs.Ty.{Ty, member, parts, unknown, void, bool, u16, i16, pointer, string}
use Rattle.types.specs.Table.{unfolded, has_type, IsType}
use Rattle.types.specs.Post.{type_of_row}
use Rattle.types.specs.declared.Row.{Row}
use Rattle.types.proofs.Fixed.{fixed_is, unknown_row, void_row, bool_row_lem, u16_row_lem, i16_row, u16_pointer_row, string_row}
use Rattle.types.proofs.Parts.{member_append, has_parts}
use Rattle.fallible.specs.declared.Error.{Error}
use Rattle.meaning.specs.TypeError.{TypeError}
use Rattle.meaning.specs.Context.{each}
use Rattle.meaning.specs.Convert.{Slot}
use Rattle.meaning.specs.Module.{slot_type}
use Rattle.walk.specs.declared.State.{State}
use Rattle.walk.specs.declared.Typed.{Typed}
use Rattle.walk.specs.Effect.{Store, store, Effect, nothing, ◌then◌, reporting, meeting, carrying, store_from, filling, Shown}
use Rattle.walk.specs.Words.{slot_place, slot_end, slot_stored}
use Rattle.walk.specs.Represents.{Lent, lent, Good, Grew, Frame, Shows, Spells, Does, Typing}
use Rattle.walk.specs.Post.{Made, Makes, Reported, Walked, WalkedTo}
use Rattle.walk.proofs.Sets.{each_append}
use Rattle.walk.proofs.Laws.{grew_same, grew_then, grew_report, had_room, typing_later, frame_none, frame_then, frame_wider, frame_slot, does_as, does_none, does_then, does_if_room, does_store, does_report, does_known}

-- The fixed rows

module _ {C : Lent} (g : Good C) where
  fixed_typing : (n : ℕ) (t : Ty) → 1 ≤ n → n ≤ 7 → unfolded C.rows n ≡ t → Typing C n t
  fixed_typing n t l h e = record { shows = λ p. record { is = fixed_is C.rows C.state.rows g.table n l h; type = e } }

  pub typing_unknown : Typing C 1 unknown
  typing_unknown = fixed_typing 1 unknown (omega arith) (omega arith) (unknown_row C.rows C.state.rows g.table)

  pub typing_void : Typing C 2 void
  typing_void = fixed_typing 2 void (omega arith) (omega arith) (void_row C.rows C.state.rows g.table)

  pub typing_bool : Typing C 3 bool
  typing_bool = fixed_typing 3 bool (omega arith) (omega arith) (bool_row_lem C.rows C.state.rows g.table)

  pub typing_u16 : Typing C 4 u16
  typing_u16 = fixed_typing 4 u16 (omega arith) (omega arith) (u16_row_lem C.rows C.state.rows g.table)

  pub typing_i16 : Typing C 5 i16
  typing_i16 = fixed_typing 5 i16 (omega arith) (omega arith) (i16_row C.rows C.state.rows g.table)

  pub typing_u16_pointer : Typing C 6 (pointer u16)
  typing_u16_pointer = fixed_typing 6 (pointer u16) (omega arith) (omega arith) (u16_pointer_row C.rows C.state.rows g.table)

  pub typing_string : Typing C 7 string
  typing_string = fixed_typing 7 string (omega arith) (omega arith) (string_row C.rows C.state.rows g.table)

-- Effects that the same state shows

member_met : (t : Ty) (k l : List Ty) → member t (each parts (k ++ l)) ≡ (member t (each parts k) || member t (each parts l))
member_met t k l = ap (member t) (each_append parts k l) ∙ member_append t (each parts k) (each parts l)

pub shown_refl : (a : Effect) → Shown a a
shown_refl a = record { stores = Permᴰ.refl a.stores; errors = refl; met = λ t. refl; steps = omega arith }

pub shown_steps : (base : ℕ) (slots : List Slot) (errors : List TypeError) (m n : ℕ) → m ≤ n → Shown (filling base slots errors m) (filling base slots errors n)
shown_steps base slots errors m n h = record { stores = Permᴰ.refl (map (store_from base) slots); errors = refl; met = λ t. refl; steps = h }

-- A record's own slot is stored last and stands first
pub shown_own : (base : ℕ) (slots : List Slot) (e e' : List TypeError) (m n : ℕ) (own : Slot)
    → Shown (filling base slots e m then carrying (base + own.at) own.type e' n) (filling base (own ∷ slots) (e ++ e') (m + n))
shown_own base slots e e' m n own =
    let stores = map (store_from base) slots in
    let types = map slot_type slots in
    let at_front = Permᴰ.middle (store_from base own) stores [] in
    record {
      stores = subst (λ (l : List Store). Permᴰ (stores ++ (store_from base own ∷ [])) (store_from base own ∷ l)) (append-nil stores) at_front;
      errors = refl;
      met = λ t. member_met t types (own.type ∷ []) ∙ or_comm (member t (each parts types)) (member t (each parts (own.type ∷ []))) ∙ sym (member_met t (own.type ∷ []) types);
      steps = omega arith;
    }

pub filling_then : (base : ℕ) (s s' : List Slot) (e e' : List TypeError) (m n : ℕ) → filling base s e m then filling base s' e' n ≡ filling base (s ++ s') (e ++ e') (m + n)
filling_then base s s' e e' m n =
    let p = map-append (store_from base) s s' in
    let q = map-append slot_type s s' in
    λ i. record { stores = sym p i; errors = e ++ e'; met = sym q i; steps = m + n }

-- A row that is made for a type, and then carried
shown_made : (at : ℕ) (t : Ty) (e : List TypeError) (m n : ℕ) → Shown (meeting (t ∷ []) m then carrying at t e n) (carrying at t e (m + n))
shown_made at t e m n =
    record {
      stores = Permᴰ.refl (store at t ∷ []);
      errors = refl;
      met = λ u. member_met u (t ∷ []) (t ∷ []) ∙ or_self (member u (each parts (t ∷ [])));
      steps = omega arith;
    }

-- The type that a row shows is met
known : {C : Lent} {r : ℕ} → Good C → (u : Ty) → Typing C r u → Does (meeting (u ∷ []) 0) C C
unfolding each
known {C} {r} g u y =
    does_known (u ∷ [])
    (λ p v m.
    let s = y.shows p in
    subst (λ (z : Ty). member v (parts z) ≡ true → has_type C.rows C.state.rows v ≡ true) s.type (has_parts C.rows C.state.rows g.table r s.is.high v) (rw (append-nil (parts u)) at m))

-- Walks

module _ {X : Type 0} {G : X → Type 0} {from to : ℕ} where
  pub walked_none : {C : Lent} → Good C → Walked G (λ x. nothing) from to C C
  walked_none {C} g = record { grew = grew_same C.output C.errors C.state.errors g; frame = frame_none; does = λ x h. does_none }

  pub walked_then : {H : X → Type 0} {a b : X → Effect} {A B C : Lent} → Walked G a from to A B → Walked H b from to B C → ((x : X) → G x → H x) → Walked G (λ x. a x then b x) from to A C
  walked_then p q f =
      record { grew = grew_then p.grew q.grew; frame = frame_then p.frame q.frame; does = λ x h. does_then (p.does x h) (q.does x (f x h)) }

  pub walked_as : {a b : X → Effect} {C C' : Lent} → Walked G a from to C C' → ((x : X) → Shown (a x) (b x)) → Walked G b from to C C'
  walked_as p s = record { grew = p.grew; frame = p.frame; does = λ x h. does_as (s x) (p.does x h) }

  pub walked_is : {a b : X → Effect} {C C' : Lent} → Walked G a from to C C' → ((x : X) → a x ≡ b x) → Walked G b from to C C'
  walked_is {C = C} {C' = C'} p e = record { grew = p.grew; frame = p.frame; does = λ x h. subst (λ (y : Effect). Does y C C') (e x) (p.does x h) }

  pub walked_wider : {from' to' : ℕ} {a : X → Effect} {C C' : Lent} → from ≤ from' → to' ≤ to → Walked G a from' to' C C' → Walked G a from to C C'
  walked_wider l m p = record { grew = p.grew; frame = frame_wider l m p.frame; does = p.does }

  -- What is known of the types only if there is room
  pub walked_room : {a b : X → Effect} {C C' : Lent} → Walked G a from to C C' → ((x : X) → G x → C.state.full ≡ false → a x ≡ b x) → Walked G b from to C C'
  walked_room {C = C} {C' = C'} p e =
      record { grew = p.grew; frame = p.frame; does = λ x h. does_if_room p.grew (λ r. subst (λ (y : Effect). Does y C C') (e x h r) (p.does x h)) }

  pub walked_to_wider : {from' to' : ℕ} {T : X → Ty} {a : X → Effect} {C C' : Lent} {r : ℕ} → from ≤ from' → to' ≤ to → WalkedTo G T a from' to' C C' r → WalkedTo G T a from to C C' r
  walked_to_wider l m p = record { walked = walked_wider l m p.walked; is = p.is; typing = p.typing }

  pub walked_to_then : {H : X → Type 0} {T : X → Ty} {a b : X → Effect} {A B C : Lent} {r : ℕ} → Walked G a from to A B → WalkedTo H T b from to B C r → ((x : X) → G x → H x)
      → WalkedTo G T (λ x. a x then b x) from to A C r
  walked_to_then p q f = record { walked = walked_then p q.walked f; is = q.is; typing = λ x h. q.typing x (f x h) }

  pub walked_to_as : {T : X → Ty} {a b : X → Effect} {C C' : Lent} {r : ℕ} → WalkedTo G T a from to C C' r → ((x : X) → Shown (a x) (b x)) → WalkedTo G T b from to C C' r
  walked_to_as p s = record { walked = walked_as p.walked s; is = p.is; typing = p.typing }

  pub walked_to_room : {T U : X → Ty} {a b : X → Effect} {C C' : Lent} {r : ℕ} → WalkedTo G T a from to C C' r
      → ((x : X) → G x → C.state.full ≡ false → T x ≡ U x) → ((x : X) → G x → C.state.full ≡ false → a x ≡ b x) → WalkedTo G U b from to C C' r
  walked_to_room {C' = C'} {r = r} p et ea =
      record {
        walked = walked_room p.walked ea;
        is = p.is;
        typing = λ x h. record { shows = λ q. subst (Shows C'.rows C'.state.rows r) (et x h (had_room p.walked.grew q)) ((p.typing x h).shows q) };
      }

  module _ {work o e w b : List ℕ} {st : State} (g : Good (lent work o e w b st)) where
    -- The type of a row that is there is met
    pub walked_known : {r : ℕ} (t : X → Ty) → ((x : X) → G x → Typing (lent work o e w b st) r (t x)) → Walked G (λ x. meeting (t x ∷ []) 0) from to (lent work o e w b st) (lent work o e w b st)
    walked_known t ty = record { grew = grew_same o e st.errors g; frame = frame_none; does = λ x h. known g (t x) (ty x h) }

    -- and stored in the slot of the record at a place
    pub walked_slot : {at r : ℕ} {o' : List ℕ} (t : X → Ty) → from ≤ slot_place at → slot_end at ≤ to → o' ≡ slot_stored o at r → ((x : X) → G x → Typing (lent work o e w b st) r (t x))
        → Walked G (λ x. carrying at (t x) [] 0) from to (lent work o e w b st) (lent work o' e w b st)
    walked_slot {at} {r} t l m q ty =
        subst (λ (x : List ℕ). Walked G (λ x. carrying at (t x) [] 0) from to (lent work o e w b st) (lent work x e w b st)) (sym q)
        (record {
          grew = grew_same (slot_stored o at r) e st.errors g;
          frame = frame_slot from to at r o l m;
          does = λ x h. does_then (known g (t x) (ty x h)) (does_store at r (t x) (ty x h));
        })

    pub carried : {at r : ℕ} {o' : List ℕ} (t : X → Ty) → o' ≡ slot_stored o at r → IsType w st.rows r → ((x : X) → G x → Typing (lent work o e w b st) r (t x)) → from ≤ slot_place at → slot_end at ≤ to
        → WalkedTo G t (λ x. carrying at (t x) [] 0) from to (lent work o e w b st) (lent work o' e w b st) r
    carried t q is ty l m = let step = walked_slot t l m q ty in record { walked = step; is = is; typing = λ x h. typing_later step.grew (ty x h) }

    pub walked_report : {x : Error} {e' : List ℕ} {st' : State} (d : X → TypeError) → Reported e st x e' st' → ((y : X) → G y → st.full ≡ false → Spells w st.rows (d y) x)
        → Walked G (λ y. reporting (d y ∷ [])) from to (lent work o e w b st) (lent work o e' w b st')
    walked_report {x} {e'} {st'} d r sp = record { grew = grew_report g r; frame = frame_none; does = λ y h. does_report (d y) x e' st' (sp y h) r }

    -- The row of a type, or of a list of cells
    pub walked_make : {row : Row} {w' b' : List ℕ} {r : Typed} (t : X → Ty) → Makes row w b st w' b' r → ((x : X) → G x → st.full ≡ false → type_of_row row (unfolded w) ≡ t x)
        → Walked G (λ x. meeting (t x ∷ []) 1) from to (lent work o e w b st) (lent work o e w' b' r.state)
    walked_make {row} {w'} {b'} {r} t m is =
        let made = m.made work o e g in
        record {
          grew = made.grew;
          frame = frame_none;
          does = λ x h. does_if_room made.grew (λ p. subst (λ (u : Ty). Does (meeting (u ∷ []) 1) (lent work o e w b st) (lent work o e w' b' r.state)) (is x h p) made.does);
        }

-- A walk that is known for each x, at the x of each y
pub walked_at : {X Y : Type 0} {G : X → Type 0} {a : X → Effect} {from to : ℕ} {C C' : Lent} (f : Y → X) → Walked G a from to C C' → Walked (λ y. G (f y)) (λ y. a (f y)) from to C C'
walked_at f p = record { grew = p.grew; frame = p.frame; does = λ y h. p.does (f y) h }

pub walked_to_at : {X Y : Type 0} {G : X → Type 0} {T : X → Ty} {a : X → Effect} {from to : ℕ} {C C' : Lent} {r : ℕ} (f : Y → X) → WalkedTo G T a from to C C' r
    → WalkedTo (λ y. G (f y)) (λ y. T (f y)) (λ y. a (f y)) from to C C' r
walked_to_at f p = record { walked = walked_at f p.walked; is = p.is; typing = λ y h. p.typing (f y) h }

-- What a row that was made unfolds to
pub made_type : {row : Row} {C C' : Lent} {r : ℕ} {t : Ty} → Made row C C' r → (C.state.full ≡ false → type_of_row row (unfolded C.rows) ≡ t) → C'.state.full ≡ false → unfolded C'.rows r ≡ t
made_type m is p = m.type p ∙ is (had_room m.grew p)

-- A row is made for the type of a record, and stored in its slot
pub carried_made : {X : Type 0} {G : X → Type 0} {from to : ℕ} {work o e w w' o' b b' : List ℕ} {st : State} {at : ℕ} {row : Row} {r : Typed} (t : X → Ty) → Good (lent work o e w b st) → Makes row w b st w' b' r
    → IsType w' r.state.rows r.ty → ((x : X) → G x → st.full ≡ false → type_of_row row (unfolded w) ≡ t x) → o' ≡ slot_stored o at r.ty → from ≤ slot_place at → slot_end at ≤ to
    → WalkedTo G t (λ x. carrying at (t x) [] 1) from to (lent work o e w b st) (lent work o' e w' b' r.state) r.ty
carried_made {X} {G} {work = work} {o = o} {e = e} {w' = w'} {b' = b'} {at = at} {r = r} t g m is ty q below above =
    let made = m.made work o e g in
    let types : (x : X) → G x → Typing (lent work o e w' b' r.state) r.ty (t x) = (λ x h. record { shows = λ p. record { is = is; type = made_type made (ty x h) p } }) in
    walked_to_as (walked_to_then (walked_make g t m ty) (carried {G = G} made.grew.good t q is types below above) (λ x h. h)) (λ x. shown_made at (t x) [] 1 0)

-- A loop: whatever does the rest does the whole
pub record Going {X : Type 0} (G : X → Type 0) (whole left : X → Effect) (from to : ℕ) (A C : Lent) : Type 0 where
  pub grew : Grew A C
  pub frame : Frame from to A.output C.output
  pub rest : (D : Lent) (x : X) → G x → Does (left x) C D → Does (whole x) A D

module _ {X : Type 0} {G : X → Type 0} {from to : ℕ} where
  pub going_start : {a : X → Effect} {A : Lent} → Good A → Going G a a from to A A
  going_start {A = A} g = record { grew = grew_same A.output A.errors A.state.errors g; frame = frame_none; rest = λ D x h d. d }

  pub going_on : {H : X → Type 0} {whole left first later : X → Effect} {A B C : Lent} → Going G whole left from to A B → Walked H first from to B C → ((x : X) → G x → H x)
      → ((x : X) → Shown (first x then later x) (left x)) → Going G whole later from to A C
  going_on p q f s =
      record {
        grew = grew_then p.grew q.grew;
        frame = frame_then p.frame q.frame;
        rest = λ D x h d. p.rest D x h (does_as (s x) (does_then (q.does x (f x h)) d));
      }

  pub going_done : {whole left : X → Effect} {A C : Lent} → Going G whole left from to A C → ((x : X) → Shown nothing (left x)) → Walked G whole from to A C
  going_done {C = C} p s = record { grew = p.grew; frame = p.frame; does = λ x h. p.rest C x h (does_as (s x) does_none) }
