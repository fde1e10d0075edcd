-- The numbers of a queue, of a class or of all. (profile)
use Rattle.std.specs.Prelude.{◌≡◌, ℕ, ◌-◌, ◌/◌, List, [], MatchOption, length, sum}
use Rattle.nvme_latency.specs.Quantiles.{IsLongest, IsQuantile, rank_of}
use Rattle.nvme_numbers.specs.Quotients.{IsQuotient}
use Rattle.nvme_numbers.specs.declared.feed.Amount.{Amount}
use Rattle.nvme_numbers.specs.declared.row.Fed.{Fed}
use Rattle.nvme_numbers.specs.declared.row.Row.{Row}
use Rattle.nvme_numbers.specs.declared.row.Spread.{Spread}
use Rattle.nvme_numbers.specs.declared.sums.Sums.{Sums}

-- how many of so many lie above a quantile: all but those of its rank and below
abbrev pub above : (parts count : ℕ) → ℕ
above parts count = count - rank_of parts count

-- means are rounded down
pub record IsSpread (times : List ℕ) (sums : Sums) (s : Spread) : Type 0 where
  pub mean : s.mean ≡ sum times / length times
  pub p50 : IsQuantile 50_000 times s.p50
  pub p95 : IsQuantile 95_000 times s.p95
  pub p99 : IsQuantile 99_000 times s.p99
  pub p999 : IsQuantile 99_900 times s.p999
  pub longest : IsLongest times s.longest
  pub host : s.host ≡ sums.host / length times
  pub arbitration : s.arbitration ≡ sums.arbitration / length times
  pub device : s.device ≡ sums.device / length times
  pub service : s.service ≡ sums.service / length times
  pub above_p50 : s.above_p50 ≡ above 50_000 (length times)
  pub above_p95 : s.above_p95 ≡ above 95_000 (length times)
  pub above_p99 : s.above_p99 ≡ above 99_000 (length times)
  pub above_p999 : s.above_p999 ≡ above 99_900 (length times)

-- of commands with these latencies and sums, done in so many picoseconds, out of so many commands in all
pub record IsRow (span whole : ℕ) (times : List ℕ) (sums : Sums) (row : Row) : Type 0 where
  pub commands : row.commands ≡ length times
  pub share : IsQuotient (length times) 1_000_000 whole row.share
  pub iops : IsQuotient (length times) 1_000_000_000_000 span row.iops
  pub bytes : IsQuotient sums.bytes 1_000_000_000_000 span row.bytes_per_second
  pub spread : MatchOption row.spread (times ≡ []) (IsSpread times sums)

-- of what was done in so many picoseconds while commands came
pub record IsFedRow (span : ℕ) (done : Amount) (f : Fed) : Type 0 where
  pub time : f.time ≡ span
  pub iops : IsQuotient done.commands 1_000_000_000_000 span f.iops
  pub bytes : IsQuotient done.bytes 1_000_000_000_000 span f.bytes_per_second
