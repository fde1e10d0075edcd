-- What is seen of an answer. (profile)
use Rattle.std.specs.Prelude.{ℕ, ◌*◌, List, length}
use Rattle.std.specs.List.{sum_by}
use Rattle.nvme_channels.specs.declared.channel.Channel.{Channel}
use Rattle.nvme_numbers.specs.declared.answer.About.{About}
use Rattle.nvme_numbers.specs.declared.answer.Answer.{Answer}
use Rattle.nvme_numbers.specs.declared.numbers.Asked.{Asked}

-- what its model says
abbrev pub asked_in : Answer → Asked
asked_in a = a.asked

-- which program simulated what
abbrev pub about_in : Answer → About
about_in a = a.about

-- how long all channels ran commands
abbrev pub busy_of : List Channel → ℕ
busy_of channels = sum_by (λ c. c.busy) channels

-- how long they could have
abbrev pub time_of : (end : ℕ) → List Channel → ℕ
time_of end channels = end * length channels
