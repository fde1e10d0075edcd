-- Where an end of a result ring stands: of which ring it is, at which address, with how many slots. Two ends are those of one ring where these are equal.
-- (profile)
use Rattle.std.specs.Prelude.{ℕ}
use Rattle.nvme_lane.specs.View.{RingName, PutView, GetView}

abbrev pub Place : Type 0
Place = RingName × (ℕ × ℕ)

module _ {T : Type 0} where
  abbrev pub put_place : PutView T → Place
  put_place p = (p.ring, (p.address, p.slots))

  abbrev pub get_place : GetView T → Place
  get_place g = (g.ring, (g.address, g.slots))
