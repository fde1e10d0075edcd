-- What the board would pick, cut to the room that there is, may be picked.
use Rattle.std.proofs.Common.{◌≡◌, ℕ, zero, suc, ◌≤◌, List, Option, Some, refl, sym, ap, ◌∙◌, subst, arith}
use Rattle.std.specs.Prelude.{option_map, IsSomeAnd, IsTrue}
use Rattle.nvme_arbiter.specs.Settings.{ArbitrationFields}
use Rattle.nvme_arbiter.specs.History.{History}
use Rattle.nvme_arbiter.specs.Lawful.{lawful_pick, limited_pick, cut, IsCutOf}
use Rattle.nvme_arbiter.specs.Layout.{board_of, is_arbiter}
use Rattle.nvme_arbiter.specs.Queues.{seen_of}
use Rattle.nvme_arbiter.specs.Standing.{pick_of}
use Rattle.nvme_arbiter.specs.declared.pick.Pick.{Pick}
use Rattle.nvme_arbiter.specs.declared.pick.Seen.{Seen}
use Rattle.nvme_arbiter.specs.declared.settings.Mechanism.{Mechanism}
use Rattle.nvme_arbiter.proofs.PickLaws.{limits_are_picks}
use Rattle.nvme_arbiter.proofs.Stands.{lawful as lawful_where_stands}
use Rattle.nvme_log.specs.Histories.{arbitration_of}
use Rattle.nvme_log.specs.Rules.{FrontRules}
use Rattle.nvme_ctrl_log.specs.Notes.{Notes, logged}
use Rattle.nvme_ctrl.specs.Standing.{IsController, has_arbiter}
use Rattle.nvme_ctrl_log.specs.Steps.{IsNextPick, IsNextWithin}
use Rattle.nvme_ctrl.specs.inside.Picks.{CanPickNow}
use Rattle.nvme_slots.specs.declared.slot.Slot.{Slot}
use Rattle.nvme_ctrl.specs.declared.state.Controller.{Controller}
use Rattle.nvme_ctrl.proofs.PickCall.{board_stands}

-- what a controller's arbitration keeps is in its ranges
pub arbiter_there : (c : Controller) (slots : List Slot) → IsController c slots → IsTrue (has_arbiter c)
arbiter_there c slots front = front.stands.numbers.is_arbiter

-- there is room for a command where there is any
pub some_room : (room : ℕ) → (room ≡ 0 → ⊥) → 1 ≤ room
some_room zero none = absurd (none refl)
some_room (suc room) none = omega arith

-- a controller picks some
some_picked : (c : Controller) (slots : List Slot) (whole pick : Pick) (room : ℕ) → IsController c slots
    → pick_of (board_of c.board).kept (seen_of (board_of c.board).queues) ≡ Some whole → pick ≡ cut room whole → 1 ≤ room → 1 ≤ pick.n
some_picked c slots whole pick room front peeked is one =
    let s = front.stands in
    let m : Mechanism = front.rules.mechanism in
    let first : ArbitrationFields = front.rules.start.settings in
    let h : History = arbitration_of (logged front.notes) in
    let seen : List Seen = seen_of (board_of c.board).queues in
    let stands = board_stands front.rules front.late front.notes c slots s in
    let lawful : lawful_pick m first h seen ≡ Some whole = sym (lawful_where_stands m first h (board_of c.board).kept seen stands.stands) ∙ peeked in
    let limited : limited_pick room m first h seen ≡ Some pick = ap (option_map (cut room)) lawful ∙ ap (λ (p : Pick). Some p) (sym is) in
    let it = limits_are_picks room m first h seen pick stands.observed one limited in
    it.0.some

pub can_pick : (c : Controller) (slots : List Slot) (whole pick : Pick) (room : ℕ) → IsTrue (is_arbiter c.board.arbiter) → c.picked ≡ 0
    → pick_of (board_of c.board).kept (seen_of (board_of c.board).queues) ≡ Some whole → pick ≡ cut room whole → 1 ≤ room → CanPickNow c slots pick
can_pick c slots whole pick room arbiter none peeked is one =
    let is_cut : IsCutOf whole pick = subst (λ (p : Pick). IsCutOf whole p) (sym is) (record { qid = refl; fresh = refl; few = omega arith }) in
    record {
      arbiter = arbiter;
      none_picked = none;
      next = subst (λ (o : Option Pick). IsSomeAnd o (λ w. IsCutOf w pick)) (sym peeked) is_cut;
      some = λ front. some_picked c slots whole pick room front peeked is one;
    }

-- it is the next pick within the room
pub next_within : (rules : FrontRules) (notes : Notes) (room : ℕ) (whole pick : Pick) → IsNextPick rules notes (Some whole) → pick ≡ cut room whole → IsNextWithin rules notes room (Some pick)
next_within rules notes room whole pick next is = ap (λ (p : Pick). Some p) is ∙ ap (option_map (cut room)) next
