-- Pieces put into a buffer with what it is written to, one after the other. Assumes nothing.
use Prim.Native.Nat.{ℕ, suc, ◌+◌, ◌≤◌, ◌<◌}
use mathlib.Core.Path.{◌≡◌, refl, sym, ◌∙◌, ap, subst}
use mathlib.Core.List.{List, [], ◌∷◌, ◌++◌, append_assoc}
use native.Mathlib.Omega.{arith}
use lib.ListN.{length, take, drop, get_or}
use lib.Seq.{take_all, take-suc}
use Rattle.program_support.specs.Buffer.{Put, PutNumber, Piece, a_text, a_number, PutAll, PutSome, word_pieces}
use Rattle.program_support.specs.Lines.{Puts, PutsSome}
use Rattle.program_support.specs.declared.print.Buffer.{Buffer}
use Rattle.program_support.proofs.BufferLaws.{then_all, pieces_more, pieces_split}

module _ {A : Type 0} {n : ℕ} where
  -- A text, a number, nothing
  pub puts_text : {b b' : Buffer A n} (t : List ℕ) → Put b.bytes b.used t b'.bytes b'.used → b'.out ≡ b.out → Puts (a_text t ∷ []) b b'
  unfolding PutAll
  puts_text {b} {b'} t p e = record { all = (b'.bytes, b'.used, p, (refl, refl)); out = e }

  pub puts_number : {b b' : Buffer A n} (m : ℕ) → PutNumber b.bytes b.used m b'.bytes b'.used → b'.out ≡ b.out → Puts (a_number m ∷ []) b b'
  unfolding PutAll
  puts_number {b} {b'} m p e = record { all = (b'.bytes, b'.used, p, (refl, refl)); out = e }

  pub puts_same : {b b' : Buffer A n} {m k : ℕ} → m ≡ k → Puts (a_number m ∷ []) b b' → Puts (a_number k ∷ []) b b'
  puts_same {b} {b'} e h = subst (λ (j : ℕ). Puts (a_number j ∷ []) b b') e h

  pub puts_none : (b : Buffer A n) → Puts [] b b
  unfolding PutAll
  puts_none b = record { all = (refl, refl); out = refl }

  -- The bytes and how many are held, of one text and of pieces of which not all were put
  pub put_of : {t : List ℕ} {b b' : Buffer A n} → Puts (a_text t ∷ []) b b' → Put b.bytes b.used t b'.bytes b'.used
  unfolding PutAll
  put_of {t} {b} {b'} h =
      let same = h.all.3 in
      subst (λ (u : ℕ). Put b.bytes b.used t b'.bytes u) (sym same.1) (subst (λ (l : List ℕ). Put b.bytes b.used t l h.all.1) (sym same.0) h.all.2)

  pub put_some : {ps : List Piece} {b b' : Buffer A n} → PutsSome ps b b' → PutSome ps b.bytes b.used b'.bytes
  put_some {ps} {b} {b'} s = record { done = s.done; failed = s.failed; later = s.later; held = b'.used; are = s.are; put = s.put.all }

  -- One after the other
  pub puts_then : {ps qs : List Piece} {b b₁ b₂ : Buffer A n} → Puts ps b b₁ → Puts qs b₁ b₂ → Puts (ps ++ qs) b b₂
  puts_then {ps} {qs} {b} {b₁} {b₂} h g = record {
    all = then_all ps qs b.bytes b.used b₁.bytes b₁.used b₂.bytes b₂.used h.all g.all;
    out = g.out ∙ h.out;
  }

  -- The first was not put, or some of these behind others that were, or nothing of what follows
  pub some_none : {p : Piece} {ps : List Piece} {b b' : Buffer A n} → b' ≡ b → PutsSome (p ∷ ps) b b'
  some_none {p} {ps} {b} {b'} e = record { done = []; failed = p; later = ps; are = refl; put = subst (λ (x : Buffer A n). Puts [] b x) (sym e) (puts_none b) }

  pub some_then : {ps qs : List Piece} {b b₁ b₂ : Buffer A n} → Puts ps b b₁ → PutsSome qs b₁ b₂ → PutsSome (ps ++ qs) b b₂
  some_then {ps} {qs} h s = record {
    done = ps ++ s.done;
    failed = s.failed;
    later = s.later;
    are = append_assoc ps s.done (s.failed ∷ s.later) ∙ ap (λ (l : List Piece). ps ++ l) s.are;
    put = puts_then h s.put;
  }

  pub some_first : {ps : List Piece} (qs : List Piece) {b b' : Buffer A n} → PutsSome ps b b' → PutsSome (ps ++ qs) b b'
  some_first qs s = record {
    done = s.done;
    failed = s.failed;
    later = s.later ++ qs;
    are = sym (append_assoc s.done (s.failed ∷ s.later) qs) ∙ ap (λ (l : List Piece). l ++ qs) s.are;
    put = s.put;
  }

  -- No word, one more, all
  pub words_none : (words : List ℕ) (b : Buffer A n) → Puts (word_pieces (take 0 words)) b b
  unfolding word_pieces
  words_none words b = puts_none b

  pub words_more : (words : List ℕ) (i : ℕ) {b b₁ b₂ b₃ : Buffer A n} → i < length words → Puts (word_pieces (take i words)) b b₁ → Puts (a_text (32 ∷ []) ∷ []) b₁ b₂ → Puts (a_number (get_or words i 0) ∷ []) b₂ b₃
      → Puts (word_pieces (take (i + 1) words)) b b₃
  words_more words i {b} {b₁} {b₂} {b₃} p h blank word =
      let n' : suc i ≡ i + 1 = omega arith in
      let e : take i words ++ (get_or words i 0 ∷ []) ≡ take (i + 1) words = sym (take-suc words i 0 p) ∙ ap (λ (m : ℕ). take m words) n' in
      subst (λ (l : List ℕ). Puts (word_pieces l) b b₃) e (subst (λ (l : List Piece). Puts l b b₃) (sym (pieces_more words i p)) (puts_then h (puts_then blank word)))

  pub words_all : (words : List ℕ) (i : ℕ) {b b' : Buffer A n} → length words ≤ i → Puts (word_pieces (take i words)) b b' → Puts (word_pieces words) b b'
  words_all words i {b} {b'} p h = subst (λ (l : List ℕ). Puts (word_pieces l) b b') (take_all i words p) h

  -- The blank before a word was not put, or the word behind its blank
  pub words_blank : (words : List ℕ) (i : ℕ) {b b₁ b' : Buffer A n} → i < length words → Puts (word_pieces (take i words)) b b₁ → b' ≡ b₁ → PutsSome (word_pieces words) b b'
  words_blank words i {b} {b₁} {b'} p h e = subst (λ (l : List Piece). PutsSome l b b') (pieces_split words i p) (some_then h (some_none e))

  pub words_word : (words : List ℕ) (i : ℕ) {b b₁ b₂ b' : Buffer A n} → i < length words → Puts (word_pieces (take i words)) b b₁ → Puts (a_text (32 ∷ []) ∷ []) b₁ b₂ → b' ≡ b₂ → PutsSome (word_pieces words) b b'
  words_word words i {b} {b₁} {b₂} {b'} p h blank e = subst (λ (l : List Piece). PutsSome l b b') (pieces_split words i p) (some_then h (some_then blank (some_none e)))
