-- What is read of a case, and its parts: behind the 52 bytes of the head they lie one after the other, each as long as the head says.
use Rattle.std.specs.Prelude.{ℕ, ◌+◌, ◌*◌, ◌<◌, ◌≤◌, ◌≡◌, cond, List, ◌++◌, leb, length, take, drop, Option}
use Rattle.std.specs.Io.KnownBytes.{Consumes}
use Rattle.record_bytes.specs.Bytes.{word_at}
use Rattle.replay.specs.Words.{part_word}
use Rattle.replay.specs.declared.case.Check.{Check}
use Rattle.replay.specs.declared.messages.Request.{Request}

-- Where the part ends that is read when so many bytes of a case are there: its length, four bytes; then all of it
abbrev pub part_end : (case : List ℕ) → (count : ℕ) → ℕ
part_end case count = cond (leb 4 count) (word_at case 0) 4

-- A read failed: the first `count` bytes of the case were read before, not the whole part. The bytes behind that part are as they were
pub record ReadSomeOfCase (before after : Option (List ℕ)) (case case' : List ℕ) : Type 0 where
  pub count : ℕ
  pub short : count < part_end case' count
  pub inside : part_end case' count ≤ length case'
  pub read : Consumes before after (take count case')
  pub kept : drop (part_end case' count) case' ≡ drop (part_end case' count) case

-- The word of this number in the head of a case
abbrev pub head_word : (case : List ℕ) (i : ℕ) → ℕ
head_word case i = part_word (take 52 case) i

-- A case of a check is whole: it is as long as it says, and the module, the rows, the errors and the slots fill it
pub record WholeCheck (case : List ℕ) : Type 0 where
  pub head : 52 ≤ length case
  pub total : length case ≡ head_word case 0
  pub filled : length case ≡ 52 + head_word case 2 + 20 * head_word case 9 + 32 * head_word case 10 + 4 * head_word case 11

-- What a case of a check holds
pub record IsCheckOf (case : List ℕ) (check : Check) : Type 0 where
  pub whole : WholeCheck case
  pub parts : drop 52 case ≡ check.module.now ++ (check.rows.now ++ (check.errors.now ++ check.slots.now))
  pub module_size : length check.module.now ≡ head_word case 2
  pub rows_size : length check.rows.now ≡ 20 * head_word case 9
  pub errors_size : length check.errors.now ≡ 32 * head_word case 10
  pub slots_size : length check.slots.now ≡ 4 * head_word case 11
  pub lent_output : check.lent.output ≡ head_word case 3
  pub lent_rows : check.lent.rows ≡ head_word case 4
  pub lent_errors : check.lent.errors ≡ head_word case 5
  pub lent_work : check.lent.work ≡ head_word case 6
  pub number : check.number ≡ head_word case 7
  pub place : check.place ≡ head_word case 8
  pub row_count : check.row_count ≡ head_word case 9
  pub error_count : check.error_count ≡ head_word case 10
  pub name_count : check.name_count ≡ head_word case 12

-- A case of messages is whole: it is as long as it says, and the module, the rows, the errors, the built-in text and the text fill it
pub record WholeRequest (case : List ℕ) : Type 0 where
  pub head : 52 ≤ length case
  pub total : length case ≡ head_word case 0
  pub filled : length case ≡ 52 + head_word case 2 + 4 * head_word case 3 + 4 * head_word case 5 + head_word case 7 + head_word case 12

-- What a case of messages holds
pub record IsRequestOf (case : List ℕ) (request : Request) : Type 0 where
  pub whole : WholeRequest case
  pub parts : drop 52 case ≡ request.module.now ++ (request.rows.now ++ (request.errors.now ++ (request.built_in.now ++ request.text.now)))
  pub module_size : length request.module.now ≡ head_word case 2
  pub rows_size : length request.rows.now ≡ 4 * head_word case 3
  pub errors_size : length request.errors.now ≡ 4 * head_word case 5
  pub built_in_size : length request.built_in.now ≡ head_word case 7
  pub text_size : length request.text.now ≡ head_word case 12
  pub row_count : request.row_count ≡ head_word case 4
  pub error_count : request.error_count ≡ head_word case 6
  pub work : request.work ≡ head_word case 8
  pub room : request.room ≡ head_word case 9
  pub number : request.number ≡ head_word case 10
  pub place : request.place ≡ head_word case 11
