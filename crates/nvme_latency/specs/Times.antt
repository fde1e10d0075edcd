-- What is seen of latencies: a list of picoseconds. (profile)
use Rattle.std.specs.Prelude.{ℕ, List}
use Rattle.nvme_latency.specs.declared.latencies.Latencies.{Latencies}
use Rattle.nvme_latency.specs.declared.ranked.Ranked.{Ranked}

abbrev pub times_of : Latencies → List ℕ
times_of l = l.times.items

abbrev pub ranked_times : Ranked → List ℕ
ranked_times r = r.times.items
