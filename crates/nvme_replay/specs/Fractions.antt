-- The fraction that a speed is. (profile)
use Rattle.nvme_replay.specs.declared.speed.Fraction.{Fraction}
use Rattle.nvme_replay.specs.declared.speed.Speed.{Speed}

abbrev pub fraction_of : Speed → Fraction
fraction_of s = record { parts = s.parts; whole = s.whole }
