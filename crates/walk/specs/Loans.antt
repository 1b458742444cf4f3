-- What a step of a walk leaves alone. The four buffers are lent: a step holds the same loans after it, each as long as before.
use Rattle.std.specs.Prelude.{◌≡◌, length}
use Rattle.walk.specs.declared.Walk.{Walk}

-- The walk still holds the buffers that it was lent
pub record SameLoans (before after : Walk) : Type 0 where
  pub output : after.output.ghost_name ≡ before.output.ghost_name
  pub errors : after.errors.ghost_name ≡ before.errors.ghost_name
  pub rows : after.rows.ghost_name ≡ before.rows.ghost_name
  pub index : after.index.ghost_name ≡ before.index.ghost_name
  pub output_length : length after.output.now ≡ length before.output.now
  pub errors_length : length after.errors.now ≡ length before.errors.now
  pub rows_length : length after.rows.now ≡ length before.rows.now

-- Errors are reported, and nothing else is written
pub record OnlyErrors (before after : Walk) : Type 0 where
  pub same : SameLoans before after
  pub output_kept : after.output.now ≡ before.output.now
  pub rows_kept : after.rows.now ≡ before.rows.now
  pub index_kept : after.index.now ≡ before.index.now

-- Rows are made
pub record OnlyRows (before after : Walk) : Type 0 where
  pub same : SameLoans before after
  pub output_kept : after.output.now ≡ before.output.now
  pub errors_kept : after.errors.now ≡ before.errors.now

-- A slot is filled
pub record OnlyOutput (before after : Walk) : Type 0 where
  pub same : SameLoans before after
  pub errors_kept : after.errors.now ≡ before.errors.now
  pub rows_kept : after.rows.now ≡ before.rows.now
  pub index_kept : after.index.now ≡ before.index.now
  pub state_kept : after.state ≡ before.state

-- No error is reported
pub record SameErrors (before after : Walk) : Type 0 where
  pub same : SameLoans before after
  pub errors_kept : after.errors.now ≡ before.errors.now

-- No slot is filled
pub record SameOutput (before after : Walk) : Type 0 where
  pub same : SameLoans before after
  pub output_kept : after.output.now ≡ before.output.now

-- No row is made
pub record SameRows (before after : Walk) : Type 0 where
  pub same : SameLoans before after
  pub rows_kept : after.rows.now ≡ before.rows.now
  pub index_kept : after.index.now ≡ before.index.now
