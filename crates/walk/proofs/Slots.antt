-- The slots read back: each shows its type where no two overlap, and every other byte is as it was. Assumes nothing.
use Prim.Native.Nat.{ℕ, ◌+◌, ◌/◌, ◌%◌, ◌^◌, ◌≤◌, ◌<◌}
use mathlib.Core.Path.{◌≡◌, refl, sym, ap, ◌∙◌, subst}
use mathlib.Core.List.Permᴰ
use mathlib.Core.List.{List, [], ◌∷◌, Permᴰ}
use mathlib.Core.Logic.{◌⊎◌, inl, inr, ⊎_elim}
use native.Mathlib.Omega.{arith}
use lib.ListN.{length, get_or}
use lib.Seq.{length-sets}
use Rattle.record_bytes.specs.Bytes.{byte_at, half_at, word_at}
use Rattle.fallible.proofs.Stores.{get_d_sets_before, get_d_sets_after, get_d_sets_inside}
use Rattle.walk.specs.Effect.{Store}
use Rattle.walk.specs.Words.{word_bytes, slot_place, slot_stored, slot_end}
use Rattle.walk.specs.Represents.{Frame, Shows, Written, Stored}

-- One slot

module _ (o : List ℕ) (at v : ℕ) where
  pub slot_word : slot_end at ≤ length o → v < 2 ^ 32 → word_at (slot_stored o at v) (slot_place at) ≡ v
  unfolding word_at half_at
  slot_word l h =
      let byte : (k : ℕ) → k < 4 → get_or (slot_stored o at v) (at + 16 + k) 0 ≡ get_or (word_bytes v) k 0 = λ k b. get_d_sets_inside 0 (word_bytes v) o (at + 16) k b l in
      let p0 : at + 16 + 0 ≡ at + 16 = omega arith in
      let p3 : at + 16 + 3 ≡ at + 16 + 2 + 1 = omega arith in
      let b0 : byte_at (slot_stored o at v) (at + 16) ≡ v % 256 = rw p0 at (byte 0 (omega arith)) in
      let b1 : byte_at (slot_stored o at v) (at + 16 + 1) ≡ v / 256 % 256 = byte 1 (omega arith) in
      let b2 : byte_at (slot_stored o at v) (at + 16 + 2) ≡ v / 256 / 256 % 256 = byte 2 (omega arith) in
      let b3 : byte_at (slot_stored o at v) (at + 16 + 2 + 1) ≡ v / 256 / 256 / 256 % 256 = rw p3 at (byte 3 (omega arith)) in
      rw (b0, b1, b2, b3) (omega arith)

  pub slot_byte : (i : ℕ) → (i < slot_place at) ⊎ (slot_end at ≤ i) → byte_at (slot_stored o at v) i ≡ byte_at o i
  slot_byte i =
      ⊎_elim
      (λ (p : i < at + 16). get_d_sets_before 0 (word_bytes v) o (at + 16) i p)
      (λ (p : at + 16 + 4 ≤ i). get_d_sets_after 0 (word_bytes v) o (at + 16) i p)

-- A slot that lies outside of what a walk may change
pub frame_word : {from to : ℕ} {o o' : List ℕ} (at : ℕ) → Frame from to o o' → (slot_end at ≤ from) ⊎ (to ≤ slot_place at) → word_at o' (slot_place at) ≡ word_at o (slot_place at)
unfolding word_at half_at
frame_word {from} {to} {o} {o'} at f off = rw (byte (at + 16) (omega arith) (omega arith), byte (at + 16 + 1) (omega arith) (omega arith), byte (at + 16 + 2) (omega arith) (omega arith), byte (at + 16 + 2 + 1) (omega arith) (omega arith)) refl
  where
    byte : (i : ℕ) → at + 16 ≤ i → i < at + 20 → byte_at o' i ≡ byte_at o i
    byte i l h = ⊎_elim (λ (p : at + 16 + 4 ≤ from). f.before i (omega arith)) (λ (p : to ≤ at + 16). f.past i (omega arith)) off

-- All of a list

unfoldable pub All : (Store → Type 0) → List Store → Type 0
All P [] = Unit {0}
All P (s ∷ l) = P s × All P l

all_map : (P Q : Store → Type 0) (l : List Store) → ((s : Store) → P s → Q s) → All P l → All Q l
unfolding All
all_map P Q [] f h = tt
all_map P Q (s ∷ l) f h = (f s h.0, all_map P Q l f h.1)

all_perm : (P : Store → Type 0) {k l : List Store} → Permᴰ k l → All P k → All P l
unfolding All
all_perm P Permᴰ.nil h = tt
all_perm P (Permᴰ.cons e d) h = (subst P e h.0, all_perm P d h.1)
all_perm P (Permᴰ.swap e₁ e₂) h = (subst P e₂ h.1.0, (subst P e₁ h.0, h.1.1))
all_perm P (Permᴰ.trans d₁ d₂) h = all_perm P d₂ (all_perm P d₁ h)

-- No two overlap

abbrev pub Off : Store → Store → Type 0
Off s u = (s.at + 4 ≤ u.at) ⊎ (u.at + 4 ≤ s.at)

off_swap : (s u : Store) → Off s u → Off u s
off_swap s u = ⊎_elim (λ (p : s.at + 4 ≤ u.at). inr p) (λ (p : u.at + 4 ≤ s.at). inl p)

unfoldable pub Apart : List Store → Type 0
Apart [] = Unit {0}
Apart (s ∷ l) = All (Off s) l × Apart l

apart_perm : {k l : List Store} → Permᴰ k l → Apart k → Apart l
unfolding Apart All
apart_perm Permᴰ.nil h = tt
apart_perm (Permᴰ.cons {b = b} {l₁ = l₁} e d) h = (all_perm (Off b) d (subst (λ (s : Store). All (Off s) l₁) e h.0), apart_perm d h.1)
apart_perm (Permᴰ.swap {a = a} {b = b} {a' = a'} {b' = b'} {l = l} e₁ e₂) h =
    let ab : Off b' a' = subst (λ (s : Store). Off s a') e₁ (subst (Off a) e₂ h.0.0) in
    ((off_swap b' a' ab, subst (λ (s : Store). All (Off s) l) e₂ h.1.0), (subst (λ (s : Store). All (Off s) l) e₁ h.0.1, h.1.1))
apart_perm (Permᴰ.trans d₁ d₂) h = apart_perm d₂ (apart_perm d₁ h)

-- The byte at a place is in no slot of the list
abbrev pub Outside : (i : ℕ) → Store → Type 0
Outside i s = (i < slot_place s.at) ⊎ (slot_end s.at ≤ i)

-- The slot ends before the output does
abbrev pub Inside : (long : ℕ) → Store → Type 0
Inside long s = slot_end s.at ≤ long

module _ (w : List ℕ) (c : ℕ) where
  written_byte : (l : List Store) (o o' : List ℕ) (i : ℕ) → All (Outside i) l → Written w c l o o' → byte_at o' i ≡ byte_at o i
  unfolding All Written
  written_byte [] o o' i a h = ap (λ (x : List ℕ). byte_at x i) h
  written_byte (s ∷ l) o o' i a h = written_byte l (slot_stored o s.at h.0) o' i a.1 h.2 ∙ slot_byte o s.at h.0 i a.0

  written_word : (l : List Store) (o o' : List ℕ) (s : Store) → All (Off s) l → Written w c l o o' → word_at o' (slot_place s.at) ≡ word_at o (slot_place s.at)
  unfolding word_at half_at
  written_word l o o' s a h =
      let byte : (k : ℕ) → k < 4 → byte_at o' (s.at + 16 + k) ≡ byte_at o (s.at + 16 + k) =
      (λ k b. written_byte l o o' (s.at + 16 + k) (all_map (Off s) (Outside (s.at + 16 + k)) l
      (λ u. ⊎_elim (λ (p : s.at + 4 ≤ u.at). inl (omega arith)) (λ (p : u.at + 4 ≤ s.at). inr (omega arith))) a) h) in
      let p0 : s.at + 16 + 0 ≡ s.at + 16 = omega arith in
      let p3 : s.at + 16 + 3 ≡ s.at + 16 + 2 + 1 = omega arith in
      let b0 : byte_at o' (s.at + 16) ≡ byte_at o (s.at + 16) = rw p0 at (byte 0 (omega arith)) in
      let b3 : byte_at o' (s.at + 16 + 2 + 1) ≡ byte_at o (s.at + 16 + 2 + 1) = rw p3 at (byte 3 (omega arith)) in
      rw (b0, byte 1 (omega arith), byte 2 (omega arith), b3) refl

  written_read : c < 2 ^ 32 → (l : List Store) (o o' : List ℕ) → Apart l → All (Inside (length o)) l → Written w c l o o'
      → All (λ s. Shows w c (word_at o' (slot_place s.at)) s.type) l
  unfolding All Apart Written
  written_read small [] o o' a r h = tt
  written_read small (s ∷ l) o o' a r h =
      let v = h.0 in
      let long = length-sets o (slot_place s.at) (word_bytes v) in
      let word : word_at o' (slot_place s.at) ≡ v =
      written_word l (slot_stored o s.at v) o' s a.0 h.2 ∙ slot_word o s.at v r.0 (omega (arith, h.1.is.high)) in (
        subst (λ (x : ℕ). Shows w c x s.type) (sym word) h.1,
        written_read small l (slot_stored o s.at v) o' a.1 (subst (λ (n : ℕ). All (Inside n) l) (sym long) r.1) h.2,
      )

  module _ {stores : List Store} {o o' : List ℕ} (h : Stored w c stores o o') where
    -- Each slot holds a row that shows its type
    pub stored_slots : c < 2 ^ 32 → Apart stores → All (Inside (length o)) stores → All (λ s. Shows w c (word_at o' (slot_place s.at)) s.type) stores
    stored_slots small a r =
        let back = Permᴰ.symm h.same in
        all_perm (λ s. Shows w c (word_at o' (slot_place s.at)) s.type) h.same
        (written_read small h.order o o' (apart_perm back a) (all_perm (Inside (length o)) back r) h.written)

    -- No other byte differs
    pub stored_others : (i : ℕ) → All (Outside i) stores → byte_at o' i ≡ byte_at o i
    stored_others i a = written_byte h.order o o' i (all_perm (Outside i) (Permᴰ.symm h.same) a) h.written
