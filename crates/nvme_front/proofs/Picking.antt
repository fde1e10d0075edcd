-- What a look for a pick finds, by what the engine tells.
use Rattle.std.proofs.Common.{◌≡◌, ◌+◌, ◌<◌, Option, Some, length, refl, sym, subst}
use Rattle.std.specs.Prelude.{IfSome, IsSome}
use Rattle.nvme_arbiter.specs.declared.pick.Pick.{Pick}
use Rattle.nvme_log.specs.Limits.{admin_events}
use Rattle.nvme_front.specs.declared.state.FrontState.{FrontState}
use Rattle.nvme_front.specs.inside.State.{rules_of, past_of, view_of}
use Rattle.nvme_front.specs.inside.Turn.{NeedsPlaces, LacksAdminEvents}
use Rattle.nvme_front.specs.View.{next_lawful, HasPlaces, LacksPlaces}

-- the next pick needs more places than are free
pub needs_places : (s : FrontState) (pick : Pick) → next_lawful (view_of s) ≡ Some pick → LacksPlaces (rules_of s) (past_of s) pick → NeedsPlaces s
needs_places s pick next lacks = (
  subst (λ (o : Option Pick). IfSome o (LacksPlaces (rules_of s) (past_of s))) (sym next) lacks,
  subst (λ (o : Option Pick). IsSome o) (sym next) refl,
)

-- the log has too few free events for the admin pick that is next
pub lacks_admin : (s : FrontState) (pick : Pick) → next_lawful (view_of s) ≡ Some pick → pick.qid ≡ 0 → HasPlaces (rules_of s) (past_of s) pick
    → s.config.max_events < length s.log.items + admin_events → LacksAdminEvents s
lacks_admin s pick next of_admin places few = (
  few,
  subst (λ (o : Option Pick). IfSome o (λ (x : Pick). (x.qid ≡ 0) × HasPlaces (rules_of s) (past_of s) x)) (sym next) (of_admin, places),
  subst (λ (o : Option Pick). IsSome o) (sym next) refl,
)
