-- Each exit of the functions that put texts and numbers into a buffer. Assumes nothing.
use Prim.Native.Nat.{ℕ, zero, suc, ◌+◌, ◌-◌, ◌≤◌, ◌<◌, min}
use mathlib.Core.Path.{◌≡◌, refl, sym, ◌∙◌, ap, subst}
use mathlib.Core.Bool.{Bool, true, false}
use mathlib.Core.List.{List, [], ◌∷◌, ◌++◌, append_assoc, append-nil}
use Rattle.std.specs.Prelude.{Result, Ok, Err, OnErr}
use native.Mathlib.Omega.{arith}
use native.Mathlib.Nat.{not-suc-le-zero, le_of_suc-le-suc}
use lib.Dec.{leb}
use lib.ListN.{length, take, drop, get_or, length-take, length-drop, length-append}
use lib.Seq.{take_all, take-suc, take-length, drop-length, drop-drop}
use borrow.Author.Tests.{lt-leb, le-leb, leb-true, leb-false}
use Rattle.program_support.specs.Digits.{last_digits, IsDigitCount}
use Rattle.program_support.specs.Buffer.{Put, PutNumber, Piece, a_text, a_number, PutAll, PutSome, word_pieces, refused_line}

-- A text copied behind the bytes held, in the place of as many of those that follow
pub appended : (buffer text part : List ℕ) (used n : ℕ) → used + length text ≤ length buffer → n ≡ length text
    → part ≡ take (length text) text ++ drop (length text) (take (length buffer - used) (drop used buffer))
    → (used + n ≡ used + length text)
    × (take used buffer ++ (part ++ drop (length buffer - used) (drop used buffer)) ≡ take used buffer ++ text ++ drop (used + n) buffer)
appended buffer text part used n p en e =
    let held = take used buffer in
    let left : length (drop used buffer) ≡ length buffer - used = length-drop used buffer in
    let whole : take (length buffer - used) (drop used buffer) ≡ drop used buffer = take_all (length buffer - used) (drop used buffer) (omega arith) in
    let rest : drop (length text) (take (length buffer - used) (drop used buffer)) ≡ drop (used + n) buffer =
    ap (drop (length text)) whole ∙ drop-drop (length text) used buffer ∙ ap (λ (m : ℕ). drop (used + m) buffer) (sym en) in
    let none : drop (length buffer - used) (drop used buffer) ≡ [] = ap (λ (m : ℕ). drop m (drop used buffer)) (sym left) ∙ drop-length (drop used buffer) in
    let copied : part ≡ text ++ drop (used + n) buffer = e ∙ ap (λ (t : List ℕ). t ++ drop (length text) (take (length buffer - used) (drop used buffer))) (take-length text) ∙ ap (λ (t : List ℕ). text ++ t) rest in (
      ap (λ (m : ℕ). used + m) en,
      ap (λ (z : List ℕ). held ++ (part ++ z)) none ∙ ap (λ (z : List ℕ). held ++ z) (append-nil part ∙ copied) ∙ sym (append_assoc held text (drop (used + n) buffer)),
    )

module _ (buffer : List ℕ) (used : ℕ) (text : List ℕ) (held : ℕ) (e : held ≡ min used (length buffer)) where
  -- Of a count past the end, all bytes are held
  same : take held buffer ≡ take used buffer
  same = go (leb used (length buffer)) refl
    where
      go : (b : Bool) → leb used (length buffer) ≡ b → take held buffer ≡ take used buffer
      go true p =
          let q : used ≤ length buffer = leb-true used (length buffer) p in
          let f : held ≡ used = omega arith in
          ap (λ (n : ℕ). take n buffer) f
      go false p =
          let q : length buffer < used = leb-false used (length buffer) p in
          take_all held buffer (omega arith) ∙ sym (take_all used buffer (omega arith))

  long : length (take used buffer) ≡ held
  long = length-take used buffer ∙ sym e

  pub put_behind : (buffer' : List ℕ) (r : ℕ) → length text ≤ length buffer - held → r ≡ held + length text → buffer' ≡ take held buffer ++ text ++ drop r buffer
      → Put buffer used text buffer' r
  put_behind buffer' r p er eb =
      let q : length (take used buffer) + length text ≤ length buffer = omega (arith, long) in
      let room : leb (length (take used buffer) + length text) (length buffer) ≡ true = le-leb _ _ q in
      record {
        count = simp room (er ∙ ap (λ (m : ℕ). m + length text) (sym long) ∙ sym (length-append (take used buffer) text));
        bytes = simp room (eb ∙ ap (λ (h : List ℕ). h ++ text ++ drop r buffer) same);
      }

  module _ (p : length buffer - held < length text) where
    no_room : leb (length (take used buffer) + length text) (length buffer) ≡ false
    no_room =
        let q : length buffer < length (take used buffer) + length text = omega (arith, long) in
        lt-leb _ _ q

    pub put_alone : (buffer' : List ℕ) (r : ℕ) → length text ≤ length buffer → r ≡ 0 + length text → buffer' ≡ text ++ drop r buffer → Put buffer used text buffer' r
    put_alone buffer' r q er eb =
        let n : r ≡ length text = omega arith in
        record { count = simp (no_room, le-leb _ _ q) n; bytes = simp (no_room, le-leb _ _ q) eb }

    pub put_past : length buffer < length text → Put buffer used text buffer 0
    put_past q = record { count = simp (no_room, lt-leb _ _ q); bytes = simp (no_room, lt-leb _ _ q) }

-- A number by its digits
pub put_digits : {buffer text buffer' : List ℕ} {used n r count : ℕ} → IsDigitCount 10 1 n count → text ≡ last_digits 10 count n → Put buffer used text buffer' r → PutNumber buffer used n buffer' r
put_digits {buffer} {text} {buffer'} {used} {n} {r} {count} f e p = record { count = count; fewest = f; put = subst (λ (t : List ℕ). Put buffer used t buffer' r) e p }

-- ---- one after the other
pub then_all : (ps qs : List Piece) (b : List ℕ) (u : ℕ) (b₁ : List ℕ) (u₁ : ℕ) (b₂ : List ℕ) (u₂ : ℕ) → PutAll ps b u b₁ u₁ → PutAll qs b₁ u₁ b₂ u₂ → PutAll (ps ++ qs) b u b₂ u₂
unfolding PutAll
then_all [] qs b u b₁ u₁ b₂ u₂ h g = subst (λ (n : ℕ). PutAll qs b n b₂ u₂) h.1 (subst (λ (l : List ℕ). PutAll qs l u₁ b₂ u₂) h.0 g)
then_all (p ∷ ps) qs b u b₁ u₁ b₂ u₂ h g = (h.0, h.1, h.2, then_all ps qs h.0 h.1 b₁ u₁ b₂ u₂ h.3 g)

-- One word more
pub pieces_more : (words : List ℕ) (i : ℕ) → i < length words → word_pieces (take i words ++ (get_or words i 0 ∷ [])) ≡ word_pieces (take i words) ++ (a_text (32 ∷ []) ∷ a_number (get_or words i 0) ∷ [])
unfolding word_pieces
pieces_more [] i p = absurd (not-suc-le-zero p)
pieces_more (w ∷ ws) zero p = refl
pieces_more (w ∷ ws) (suc i) p = ap (λ (l : List Piece). a_text (32 ∷ []) ∷ a_number w ∷ l) (pieces_more ws i (le_of_suc-le-suc p))

-- No word, one more, all
pub words_none : (buffer : List ℕ) (used : ℕ) (words : List ℕ) → PutAll (word_pieces (take 0 words)) buffer used buffer used
unfolding PutAll word_pieces
words_none buffer used words = (refl, refl)

pub words_more : (words buffer : List ℕ) (used i : ℕ) (b : List ℕ) (u : ℕ) (b₁ : List ℕ) (u₁ : ℕ) (b₂ : List ℕ) (u₂ : ℕ) → i < length words → PutAll (word_pieces (take i words)) buffer used b u
    → Put b u (32 ∷ []) b₁ u₁ → PutNumber b₁ u₁ (get_or words i 0) b₂ u₂ → PutAll (word_pieces (take (i + 1) words)) buffer used b₂ u₂
unfolding PutAll
words_more words buffer used i b u b₁ u₁ b₂ u₂ p h blank word =
    let two : PutAll (a_text (32 ∷ []) ∷ a_number (get_or words i 0) ∷ []) b u b₂ u₂ = (b₁, u₁, blank, (b₂, u₂, word, (refl, refl))) in
    let n : suc i ≡ i + 1 = omega arith in
    let e : take i words ++ (get_or words i 0 ∷ []) ≡ take (i + 1) words = sym (take-suc words i 0 p) ∙ ap (λ (m : ℕ). take m words) n in
    subst (λ (l : List ℕ). PutAll (word_pieces l) buffer used b₂ u₂) e
    (subst (λ (l : List Piece). PutAll l buffer used b₂ u₂) (sym (pieces_more words i p)) (then_all (word_pieces (take i words)) (a_text (32 ∷ []) ∷ a_number (get_or words i 0) ∷ []) buffer used b u b₂ u₂ h two))

pub words_all : (words buffer : List ℕ) (used i : ℕ) (b : List ℕ) (u : ℕ) → length words ≤ i → PutAll (word_pieces (take i words)) buffer used b u → PutAll (word_pieces words) buffer used b u
words_all words buffer used i b u p h = subst (λ (l : List ℕ). PutAll (word_pieces l) buffer used b u) (take_all i words p) h

-- The five pieces of a line
pub refused_all : (n place : ℕ) (b : List ℕ) (u : ℕ) (b₁ : List ℕ) (u₁ : ℕ) (b₂ : List ℕ) (u₂ : ℕ) (b₃ : List ℕ) (u₃ : ℕ) (b₄ : List ℕ) (u₄ : ℕ) (b₅ : List ℕ) (u₅ : ℕ)
    → Put b u (114 ∷ 101 ∷ 102 ∷ 117 ∷ 115 ∷ 101 ∷ 100 ∷ 32 ∷ []) b₁ u₁ → PutNumber b₁ u₁ n b₂ u₂ → Put b₂ u₂ (32 ∷ 97 ∷ 116 ∷ 32 ∷ []) b₃ u₃ → PutNumber b₃ u₃ place b₄ u₄ → Put b₄ u₄ (10 ∷ []) b₅ u₅
    → PutAll (refused_line n place) b u b₅ u₅
unfolding PutAll
refused_all n place b u b₁ u₁ b₂ u₂ b₃ u₃ b₄ u₄ b₅ u₅ p q r s t = (b₁, u₁, p, (b₂, u₂, q, (b₃, u₃, r, (b₄, u₄, s, (b₅, u₅, t, (refl, refl))))))

-- ---- the next was not put
-- What a failure leaves is all that was known of it
pub on_err : {T E P : Type 0} → (r : Result T E) → P → OnErr r P
on_err (Ok x) p = tt
on_err (Err e) p = p

-- The first of them was not
pub some_none : (p : Piece) (ps : List Piece) (buffer : List ℕ) (used : ℕ) (buffer' : List ℕ) → buffer' ≡ buffer → PutSome (p ∷ ps) buffer used buffer'
unfolding PutAll
some_none p ps buffer used buffer' e = record { done = []; failed = p; later = ps; held = used; are = refl; put = (e, refl) }

-- Some of the others were, behind one that was, or behind all of these
pub some_text : (t : List ℕ) (ps : List Piece) (b : List ℕ) (u : ℕ) (b₁ : List ℕ) (u₁ : ℕ) (b₂ : List ℕ) → Put b u t b₁ u₁ → PutSome ps b₁ u₁ b₂ → PutSome (a_text t ∷ ps) b u b₂
unfolding PutAll
some_text t ps b u b₁ u₁ b₂ p s = record { done = a_text t ∷ s.done; failed = s.failed; later = s.later; held = s.held; are = ap (λ (l : List Piece). a_text t ∷ l) s.are; put = (b₁, u₁, p, s.put) }

pub some_number : (n : ℕ) (ps : List Piece) (b : List ℕ) (u : ℕ) (b₁ : List ℕ) (u₁ : ℕ) (b₂ : List ℕ) → PutNumber b u n b₁ u₁ → PutSome ps b₁ u₁ b₂ → PutSome (a_number n ∷ ps) b u b₂
unfolding PutAll
some_number n ps b u b₁ u₁ b₂ p s = record { done = a_number n ∷ s.done; failed = s.failed; later = s.later; held = s.held; are = ap (λ (l : List Piece). a_number n ∷ l) s.are; put = (b₁, u₁, p, s.put) }

pub some_then : (ps qs : List Piece) (b : List ℕ) (u : ℕ) (b₁ : List ℕ) (u₁ : ℕ) (b₂ : List ℕ) → PutAll ps b u b₁ u₁ → PutSome qs b₁ u₁ b₂ → PutSome (ps ++ qs) b u b₂
some_then ps qs b u b₁ u₁ b₂ h s = record {
  done = ps ++ s.done;
  failed = s.failed;
  later = s.later;
  held = s.held;
  are = append_assoc ps s.done (s.failed ∷ s.later) ∙ ap (λ (l : List Piece). ps ++ l) s.are;
  put = then_all ps s.done b u b₁ u₁ b₂ s.held h s.put;
}

-- And nothing of what follows
pub some_first : (ps qs : List Piece) (b : List ℕ) (u : ℕ) (b' : List ℕ) → PutSome ps b u b' → PutSome (ps ++ qs) b u b'
some_first ps qs b u b' s = record {
  done = s.done;
  failed = s.failed;
  later = s.later ++ qs;
  held = s.held;
  are = sym (append_assoc s.done (s.failed ∷ s.later) qs) ∙ ap (λ (l : List Piece). l ++ qs) s.are;
  put = s.put;
}

-- The words from one on
pub pieces_split : (words : List ℕ) (i : ℕ) → i < length words → word_pieces (take i words) ++ (a_text (32 ∷ []) ∷ a_number (get_or words i 0) ∷ word_pieces (drop (suc i) words)) ≡ word_pieces words
unfolding word_pieces
pieces_split [] i p = absurd (not-suc-le-zero p)
pieces_split (w ∷ ws) zero p = refl
pieces_split (w ∷ ws) (suc i) p = ap (λ (l : List Piece). a_text (32 ∷ []) ∷ a_number w ∷ l) (pieces_split ws i (le_of_suc-le-suc p))

-- The blank before a word was not put
pub words_blank : (words buffer : List ℕ) (used i : ℕ) (b : List ℕ) (u : ℕ) (b' : List ℕ) → i < length words → PutAll (word_pieces (take i words)) buffer used b u → b' ≡ b → PutSome (word_pieces words) buffer used b'
words_blank words buffer used i b u b' p h e =
    subst (λ (l : List Piece). PutSome l buffer used b') (pieces_split words i p)
    (some_then _ _ buffer used b u b' h (some_none _ _ b u b' e))

-- The word itself was not
pub words_word : (words buffer : List ℕ) (used i : ℕ) (b : List ℕ) (u : ℕ) (b₁ : List ℕ) (u₁ : ℕ) (b' : List ℕ) → i < length words → PutAll (word_pieces (take i words)) buffer used b u
    → Put b u (32 ∷ []) b₁ u₁ → b' ≡ b₁ → PutSome (word_pieces words) buffer used b'
words_word words buffer used i b u b₁ u₁ b' p h blank e =
    subst (λ (l : List Piece). PutSome l buffer used b') (pieces_split words i p)
    (some_then _ _ buffer used b u b' h (some_text (32 ∷ []) _ b u b₁ u₁ b' blank (some_none _ _ b₁ u₁ b' e)))

-- One text alone
pub one_text : (t b : List ℕ) (u : ℕ) (b₁ : List ℕ) (u₁ : ℕ) → Put b u t b₁ u₁ → PutAll (a_text t ∷ []) b u b₁ u₁
unfolding PutAll
one_text t b u b₁ u₁ p = (b₁, u₁, p, (refl, refl))
