-- The states of the reader and of the writer of a slice.
use Rattle.std.specs.Prelude.{◌-◌, ◌≤◌, ℕ, List, [], Some, false, take, drop, length}
use Rattle.der_core_values.specs.CoreHead.Limits.{levels_max}
use Rattle.der_core_values.specs.CoreHead.Heads.{Fits}
use Rattle.der_core_values.specs.CoreHead.declared.encoding_rules.EncodingRules.TheVariants as encodings
use Rattle.der_core_values.specs.CoreHead.Reading.{State}
use Rattle.der_core_values.specs.CoreHead.Writing.{Out}
use Rattle.der_core_coding.specs.declared.slice_reader.SliceReader.TheInside.{Inside}
use Rattle.der_core_coding.specs.declared.slice_writer.SliceWriter.{SliceWriter}

-- The state of a reader.
abbrev pub view_of : Inside → State
view_of a =
    record {
      rest = take (a.end - a.position) (drop a.position a.bytes.now);
      behind = drop a.end a.bytes.now;
      room = levels_max - a.depth;
      failed = a.failed;
      source =
          record { encoding = a.encoding; size = length a.bytes.now };
    }

-- The state of a reader under DER, before any call, that may open this many levels.
abbrev pub unread_within : ℕ → List ℕ → State
unread_within levels w =
    record {
      rest = w;
      behind = [];
      room = levels;
      failed = false;
      source = record { encoding = encodings.Der; size = length w };
    }

-- The fields of a reader are consistent.
pub record IsReader (a : Inside) : Type 0 where
  pub position : a.position ≤ a.end
  pub end : a.end ≤ length a.bytes.now
  pub bytes : Fits a.bytes.now
  pub depth : a.depth ≤ levels_max

-- The state of a writer: the bytes before its position, and the room after it.
abbrev pub output : SliceWriter → Out
output w =
    record {
      written = take w.position w.bytes.now;
      room = Some (length w.bytes.now - w.position);
      failed = w.failed;
    }
