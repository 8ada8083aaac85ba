-- What is true of the fields of a reader of lines.
use Rattle.std.specs.Prelude.{◌≡◌, ◌+◌, ◌≤◌, ◌<◌, ◌^◌, vec_len, true, false}
use Rattle.plan_io.specs.Limits.{most_read}
use Rattle.plan_io.specs.declared.lines.Lines.TheInside.{Inside}
use Rattle.plan_io.specs.LinesSeen.{LinesSeen, IsWithin}
use Rattle.plan_io.specs.Newline.{NoNewline}

-- what contracts see of the fields
abbrev pub seen_of : Inside → LinesSeen
seen_of reader = record {
  held = reader.held.bytes;
  long = reader.long;
  taken = reader.taken;
  answered = reader.answered;
  most_bytes = reader.most_bytes;
  most_lines = reader.most_lines;
  failed = reader.failed;
  ended = reader.ended;
}

-- the limits are small, at most one byte beyond them was taken, no more lines than allowed were answered, and a reader
-- that failed, took too much or came to the end holds no whole line
pub record IsReader (reader : Inside) : Type 0 where
  pub room : vec_len reader.room ≡ most_read
  pub most_bytes : reader.most_bytes < 2 ^ 32
  pub most_lines : reader.most_lines < 2 ^ 32
  pub taken : reader.taken ≤ reader.most_bytes + 1
  pub answered : reader.answered ≤ reader.most_lines
  pub failed : reader.failed ≡ true → NoNewline reader.held.bytes × IsWithin (seen_of reader)
  pub ended : reader.ended ≡ true → NoNewline reader.held.bytes × IsWithin (seen_of reader) × (reader.failed ≡ false)
  pub over : reader.most_bytes < reader.taken → NoNewline reader.held.bytes
