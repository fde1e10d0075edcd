-- Worked examples of the definitions. Times are in picoseconds. (profile)
use Rattle.std.proofs.Common.{arith}
use Rattle.std.specs.Prelude.{◌≡◌, ℕ, List, [], ◌∷◌, Some, None, codes}
use Rattle.nvme_cells.specs.Tables.{row_text}
use Rattle.nvme_load.specs.declared.mix.Operation.TheVariants.{Read}
use Rattle.nvme_model.specs.declared.finished.Finished.{Finished}
use Rattle.nvme_numbers.specs.Feeding.{Comes, Ends, Event, amount_of, done_in, fed_in, fed_time, first_in, last_in}
use Rattle.nvme_numbers.specs.Quotients.{jain_of, rounded}
use Rattle.nvme_numbers.specs.Rows.{above}
use Rattle.nvme_numbers.specs.Tables.{all_row, began_row, channels_row, count_row, latencies_row, line_text}
use Rattle.nvme_numbers.specs.declared.answer.table.Columns.TheVariants.{Rates}
use Rattle.nvme_numbers.specs.declared.row.Row.{Row}

pub record NumberExamples : Type 0 where
  pub half_up : rounded 5 2 ≡ 3
  pub down : rounded 4 3 ≡ 1
  pub fair : jain_of (7 ∷ 7 ∷ []) ≡ 10_000
  pub one_of_two : jain_of (7 ∷ 0 ∷ []) ≡ 5_000
  pub two_to_one : jain_of (2 ∷ 1 ∷ 0 ∷ []) ≡ 6_000

pub record AboveExamples : Type 0 where
  pub median : above 50_000 5 ≡ 2
  pub one : above 99_900 1_000 ≡ 1
  pub none : above 99_900 999 ≡ 0
  pub twenty : above 99_000 2_000 ≡ 20

-- a read of a queue
abbrev pub command : (queue blocks done : ℕ) → Finished
command queue blocks done = record {
  queue = queue;
  number = 0;
  operation = Read;
  block = 0;
  blocks = blocks;
  channel = 0;
  times = record {
    came = 0;
    submitted = 0;
    picked = 0;
    started = 0;
    done = done;
    submitted_later = omega arith;
    picked_later = omega arith;
    started_later = omega arith;
    done_later = omega arith;
  };
}

-- the newest first: three commands come at 0, 10 and 20, and meanwhile and behind that four are done
abbrev pub events : List Event
events = Ends (command 1 8 25) ∷ Ends (command 1 8 20) ∷ Comes 3 20 ∷ Ends (command 2 1 15) ∷ Ends (command 1 4 10) ∷ Comes 2 10 ∷ Comes 1 0 ∷ []

-- one command warms up, so the time is that from 10 to 20: what is done at 10 isn't behind it, and what is done at 25 neither, unless one more comes later
pub record FeedExamples : Type 0 where
  pub began : first_in 1 events ≡ Some 10
  pub last : last_in events ≡ 20
  pub time : fed_time 1 events ≡ 10
  pub first_queue : fed_in 1 1 events ≡ command 1 8 20 ∷ []
  pub second_queue : fed_in 1 2 events ≡ command 2 1 15 ∷ []
  pub bytes : amount_of (fed_in 1 1 events) ≡ record { commands = 1; bytes = 4_096 }
  pub done : done_in 1 1 events ≡ command 1 8 25 ∷ command 1 8 20 ∷ []
  pub one_more : fed_in 1 1 (Comes 4 30 ∷ events) ≡ command 1 8 25 ∷ command 1 8 20 ∷ []
  pub no_more : fed_in 1 1 (Comes 3 30 ∷ events) ≡ command 1 8 20 ∷ []
  pub no_warm_up : fed_in 0 1 events ≡ command 1 8 20 ∷ command 1 4 10 ∷ []
  pub none_counts : first_in 3 events ≡ None
  pub none_fed : fed_in 3 1 events ≡ []

-- three of four commands, 12 a second
abbrev pub three_quarters : Row
three_quarters = record {
  commands = 3;
  share = Some 750_000;
  iops = Some 12;
  bytes_per_second = None;
  spread = None;
  fed = record { iops = None; bytes_per_second = None; time = 0 };
}

pub record TextExamples : Type 0 where
  pub rounded_up : row_text (began_row (Some 1_234_567)) ≡ codes " from 1.235 us on"
  pub one : row_text (count_row 1) ≡ codes "1 command"
  pub two : row_text (count_row 2) ≡ codes "2 commands"
  pub ninth : row_text (channels_row 8) ≡ codes "\nchannels from 8 on:"
  pub tenth : row_text (channels_row 9) ≡ []
  pub line : line_text Rates all_row three_quarters ≡ codes "all                    3  75.0000%              12               -\n"
  pub no_time : row_text (latencies_row None) ≡ codes "            -"
