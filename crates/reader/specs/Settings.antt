-- What is fixed for a reader: how its lines, payloads and trays are read, and when an offer is refused.
use Rattle.std.specs.Prelude.{ℕ, cond, List, length, Some, None, count_by, Option, nat_eq, nat_lt}
use Rattle.refusal.specs.declared.Refusal.{Refusal}
use Rattle.refusal.specs.declared.Refusal.TheVariants.{FrameNumber, OutputLength}
use Rattle.line.specs.declared.depth.Depth.{Depth}
use Rattle.line.specs.Lines.{line_fault}
use Rattle.walk.specs.Entries.{entries, blocks_read}
use Rattle.tray.specs.Trays.{Fault}
use Rattle.tray.specs.Reading.{messages_in, faults_in}
use Rattle.runs.specs.Pasts.{Setting}
use Rattle.reader.specs.Following.{spoilt_of}

-- the first of two refusals
abbrev pub or_due : Option Refusal → Option Refusal → Option Refusal
or_due (Some r) other = Some r
or_due None other = other

-- the refusal due to an offer, if any: by its line, then by its frame number, then by its tray
abbrev pub offer_due : Depth → ℕ → ℕ → List ℕ → List ℕ → Option Refusal
offer_due d floor t line tray =
    or_due (line_fault d line) (cond (nat_lt t floor) (Some FrameNumber) (cond (nat_lt (length tray) 1630) (Some (OutputLength (length tray))) None))

-- how many faults have this layer
abbrev pub in_layer : ℕ → List Fault → ℕ
in_layer layer fs = count_by (λ (f : Fault). nat_eq f.layer layer) fs

-- a reader of lines of a depth, by a system that finds these payloads, which watches these numbers
abbrev pub setting_of : Depth → (List ℕ → Option (List ℕ)) → List ℕ → Setting
setting_of d found watch =
    record {
      found = found;
      watch = watch;
      due = offer_due d;
      blocks = λ payload. blocks_read (entries payload);
      spoilt = λ payload. spoilt_of (entries payload);
      messages = messages_in;
      block_faults = λ used. in_layer 1 (faults_in used);
      message_faults = λ used. in_layer 2 (faults_in used);
    }
