-- What an accepted check leaves passes test 8 of `messages`. Assumes nothing.
use Prim.Native.Nat.{ℕ, zero, suc, ◌+◌, ◌≤◌, ◌<◌}
use mathlib.Core.Path.{◌≡◌, refl, sym, ◌∙◌, ap, subst}
use mathlib.Core.Bool.{Bool, true, false, cond, ◌||◌, true≢false}
use mathlib.Core.Option.{Option, none}
use mathlib.Core.List.{List, [], ◌∷◌, ◌++◌}
use native.Mathlib.Omega.{arith}
use borrow.Author.Tests.{eq-eqb, ne_eqb, eqb-true, leb-true, leb-false}
use lib.Dec.{eqb, leb}
use lib.ListN.{length}
use Rattle.literal.proofs.Digit.{passes_below, passed}
use Rattle.fallible.specs.Outcome.{Outcome, refused, accepted, or_next}
use Rattle.fallible.specs.Operands.{OperandSort, name_operand, type_operand, number_operand, operator_operand, unused, error_kinds, mismatch_kind, literal_kind, operand_sort}
use Rattle.fallible.specs.Errors.{error_at, errors_from}
use Rattle.fallible.specs.declared.Error.{Error}
use Rattle.names.specs.Names.{name_test}
use Rattle.text.specs.Length.{longest}
use Rattle.descriptions.specs.Descriptions.{descriptions, line_of, InTable, piece_of, word_of, first_operand, second_operand, third_operand, literal_place}
use Rattle.descriptions.specs.Operands.{reading, printed_as, printed_once}
use Rattle.descriptions.specs.declared.Piece.{Piece}
use Rattle.descriptions.specs.declared.Piece.TheVariants.{Fixed, Name, Row, Number, Operator, BuiltIn, Literal}
use Rattle.descriptions.proofs.Operands.{every_operand_printed}
use Rattle.meaning.specs.Context.{All}
use Rattle.meaning.specs.Promise.{built_in_types, lengths_of}
use Rattle.meaning.proofs.Members.{all_join}
use Rattle.meaning.proofs.Passed.{passed as tests-passed}
use Rattle.error_messages.specs.Description.{Inputs, inputs, word_at, ExistsAs, PieceExists, Readable}
use Rattle.error_messages.specs.Messages.{messages_of, Sound}
use Rattle.module_tests.specs.Refusal.{module_refusal}
use Rattle.readable.specs.Readable.{WordOf, WordsExist}
use Rattle.readable.specs.Told.{LeftSound, CheckedReadable}
use Rattle.readable.proofs.Readable.{left_readable}

-- Parts of a list
all_left : {A : Type 0} (P : A → Type 0) (a b : List A) → All P (a ++ b) → All P a
unfolding All
all_left P [] b h = tt
all_left P (x ∷ a) b h = (h.0, all_left P a b h.1)

all_right : {A : Type 0} (P : A → Type 0) (a b : List A) → All P (a ++ b) → All P b
unfolding All
all_right P [] b h = h
all_right P (x ∷ a) b h = all_right P a b h.1

-- A byte of a line reads one of four words
picked : (Q : ℕ → Type 0) (x : Bool) {m n : ℕ} → Q m → Q n → Q (cond x m n)
picked Q true p q = p
picked Q false p q = q

word_cases : (Q : ℕ → Type 0) (byte : ℕ) → Q first_operand → Q second_operand → Q third_operand → Q literal_place → Q (word_of byte)
word_cases Q byte a b c d =
    picked Q (eqb byte 78) a (picked Q (eqb byte 77) b (picked Q (eqb byte 84) a (picked Q (eqb byte 85) b (picked Q (eqb byte 86) c
    (picked Q (eqb byte 80) a (picked Q (eqb byte 81) b (picked Q (eqb byte 79) a (picked Q (eqb byte 66) a (picked Q (eqb byte 76) d a)))))))))

-- What holds of each word as it is printed holds of each byte of the line
module _ (P : Piece → ℕ → Type 0) (fixed : (word : ℕ) → P Fixed word) where
  from_reading : (p : Piece) (word : ℕ) → All (λ q. P q word) (reading p) → P p word
  unfolding All
  from_reading Fixed word h = fixed word
  from_reading Name word h = h.0
  from_reading Row word h = h.0
  from_reading Number word h = h.0
  from_reading Operator word h = h.0
  from_reading BuiltIn word h = h.0
  from_reading Literal word h = h.0

  abbrev Printed : (line : List ℕ) → (word : ℕ) → Type 0
  Printed line word = All (λ q. P q word) (printed_as word line)

  bytes_exist : (line : List ℕ) → Printed line first_operand → Printed line second_operand → Printed line third_operand → Printed line literal_place
      → All (λ byte. P (piece_of byte) (word_of byte)) line
  unfolding All printed_as
  bytes_exist [] a b c d = tt
  bytes_exist (byte ∷ line) a b c d =
      let word = word_of byte in
      let here = word_cases (Printed (byte ∷ line)) byte a b c d in
      let read = subst (λ (x : Bool). All (λ q. P q word) (cond x (reading (piece_of byte)) [] ++ printed_as word line)) (eq-eqb word word refl) here in
      let rest : (w : ℕ) → Printed (byte ∷ line) w → Printed line w = (λ w h. all_right (λ q. P q w) (cond (eqb word w) (reading (piece_of byte)) []) (printed_as w line) h) in (
        from_reading (piece_of byte) word (all_left (λ q. P q word) (reading (piece_of byte)) (printed_as word line) read),
        bytes_exist line (rest first_operand a) (rest second_operand b) (rest third_operand c) (rest literal_place d),
      )

-- An operand of a sort exists as what it is printed as
module _ (x : Inputs) where
  abbrev Exists : (word : ℕ) → Piece → Type 0
  Exists word piece = ExistsAs x piece word

  once_exists : (sort : OperandSort) (word : ℕ) → WordOf x.input x.rows x.count sort word → All (Exists word) (printed_once sort)
  unfolding All
  once_exists name_operand word h = (h, tt)
  once_exists type_operand word h = (h, tt)
  once_exists number_operand word h = (tt, tt)
  once_exists operator_operand word h = (record { low = h.0; high = h.1 }, tt)
  once_exists unused word h = tt

  literal_exists : (e : Error) (b : Bool) → (b ≡ true → ExistsAs x Literal e.place) → All (Exists e.place) (cond b (Literal ∷ []) [])
  unfolding All
  literal_exists e true h = (h refl, tt)
  literal_exists e false h = tt

  built_in_exists : (e : Error) (b : Bool) → (b ≡ true → ExistsAs x BuiltIn e.first) → All (Exists e.first) (cond b (BuiltIn ∷ []) [])
  unfolding All
  built_in_exists e true h = (h refl, tt)
  built_in_exists e false h = tt

  -- The name of kind 3
  built_in_name : (e : Error) → WordsExist x.input x.rows x.count e → eqb e.kind mismatch_kind ≡ true → ExistsAs x BuiltIn e.first
  unfolding operand_sort built_in_types
  built_in_name e h q =
      (subst (λ (k : ℕ). WordOf x.input x.rows x.count (operand_sort k 0) e.first) (eqb-true e.kind mismatch_kind q) h.first, h.built_in q)

  -- A kind of the table of kinds has a line
  kind_in_table : (kind : ℕ) → 1 ≤ kind → kind ≤ length error_kinds → InTable kind
  unfolding line_of
  kind_in_table kind p q = leb-true 1 (length (line_of kind)) (or_left _ _ (passed (length descriptions) test tested kind (omega arith)) (ne_eqb kind 0 (omega arith)))
    where
      test : (k : ℕ) → Bool
      test k = leb 1 (length (line_of k)) || eqb k 0

      tested : passes_below (length descriptions) test ≡ true
      tested = refl

      or_left : (a b : Bool) → (a || b) ≡ true → b ≡ false → a ≡ true
      or_left true b h z = refl
      or_left false true h z = absurd (true≢false z)
      or_left false false h z = h

  word_readable : (e : Error) → WordsExist x.input x.rows x.count e → Readable x e
  unfolding PieceExists
  word_readable e h =
      let printed = every_operand_printed e.kind (omega (arith, h.high)) in
      record {
        known = kind_in_table e.kind h.low h.high;
        exist = bytes_exist (λ piece word. ExistsAs x piece (word_at e word)) (λ word. tt) (line_of e.kind)
            (subst (All (Exists e.first)) (sym printed.first)
            (all_join (Exists e.first) (printed_once (operand_sort e.kind 0)) (cond (eqb e.kind mismatch_kind) (BuiltIn ∷ []) [])
            (once_exists (operand_sort e.kind 0) e.first h.first) (built_in_exists e (eqb e.kind mismatch_kind) (built_in_name e h))))
            (subst (All (Exists e.second)) (sym printed.second) (once_exists (operand_sort e.kind 1) e.second h.second))
            (subst (All (Exists e.third)) (sym printed.third) (once_exists (operand_sort e.kind 2) e.third h.third))
            (subst (All (Exists e.place)) (sym printed.literal) (literal_exists e (eqb e.kind literal_kind) h.literal));
      }

  -- The listed errors
  errors_readable : (errors : List ℕ) (many from : ℕ) → ((i : ℕ) → from ≤ i → i < from + many → WordsExist x.input x.rows x.count (error_at errors i))
      → All (Readable x) (errors_from errors from many)
  unfolding All errors_from
  errors_readable errors zero from h = tt
  errors_readable errors (suc many) from h =
      (word_readable (error_at errors from) (h from (omega arith) (omega arith)), errors_readable errors many (from + 1) (λ i p q. h i (omega arith) (omega arith)))

pub left_sound : LeftSound
left_sound input built_in before after counts c =
    let left = left_readable input before after counts c in
    let x : Inputs = inputs input built_in after.rows counts.rows in
    record {
      table = left.table;
      names = record { each = left.names };
      lent = left.lent;
      readable = errors_readable x after.errors counts.errors 0 (λ i p q. left.words i (omega arith));
    }

-- The answer is another one
not_8 : (number : ℕ) {place p : ℕ} {answer : Outcome ℕ} → (number ≡ 8 → ⊥) → answer ≡ refused number place → answer ≡ refused 8 p → ⊥
not_8 number other e q = other (ap refusal_is (sym e ∙ q))
  where
    refusal_is : Outcome ℕ → ℕ
    refusal_is (refused n p) = n
    refusal_is (accepted n) = 0

not_accepted : {n p : ℕ} {answer : Outcome ℕ} → answer ≡ accepted n → answer ≡ refused 8 p → ⊥
not_accepted e q = let z = ap refusal_is (sym e ∙ q) in omega arith
  where
    refusal_is : Outcome ℕ → ℕ
    refusal_is (refused n p) = n
    refusal_is (accepted n) = 0

pub checked_readable : CheckedReadable
checked_readable input built_in before after counts c lent left answer a place =
    by_work (leb counts.rows (length lent.work)) refl
  where
    x : Inputs
    x = inputs input built_in after.rows counts.rows

    sound : Sound x after.errors counts.errors
    sound = left_sound input built_in before after counts c

    tested : module_refusal input ≡ none
    tested = let p = tests-passed input (lengths_of before) counts (sym c.answers) in ap (λ (o : Option (ℕ × ℕ)). or_next o (name_test input)) p.faults ∙ p.repeats

    text : List ℕ
    text = messages_of x after.errors counts.errors

    by_room : counts.rows ≤ length lent.work → (long wide : Bool) → leb (length text) longest ≡ long → leb (0 + length text) (length lent.text) ≡ wide → answer ≡ refused 8 place → ⊥
    by_room w true true p q = not_accepted (a.written tested sound w (record { short = leb-true (length text) longest p; room = leb-true (0 + length text) (length lent.text) q })).0
    by_room w true false p q = not_8 9 (omega arith) (a.too_long tested sound w (λ f. let n = leb-false (0 + length text) (length lent.text) q in let r = f.room in omega arith)).0
    by_room w false wide p q = not_8 9 (omega arith) (a.too_long tested sound w (λ f. let n = leb-false (length text) longest p in let r = f.short in omega arith)).0

    by_work : (b : Bool) → leb counts.rows (length lent.work) ≡ b → answer ≡ refused 8 place → ⊥
    by_work true p = by_room (leb-true counts.rows (length lent.work) p) (leb (length text) longest) (leb (0 + length text) (length lent.text)) refl refl
    by_work false p = not_8 5 (omega arith) (a.few_words tested sound (leb-false counts.rows (length lent.work) p)).0
