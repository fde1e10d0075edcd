-- Queues that wait for arbitration fill the device.
use Rattle.std.proofs.Common.{◌≡◌, ◌∙◌, ◌≤◌, ℕ, ◌+◌, ◌&&◌, ◌==◌, ◌∷◌, [], Bool, true, false, nat_lt, min, List, Option, Some, None, inl, inr, refl, sym, ap, arith}
use Rattle.std.specs.Prelude.{is_some, option_map}
use Rattle.std.specs.List.{list_any}
use Rattle.std.proofs.lemmas.Bool.{cond-false, true≢false}
use Rattle.std.proofs.lemmas.List.Elements.{All-head, All-tail}
use Rattle.std.proofs.lemmas.Option.{same_Some}
use Rattle.nvme_arbiter.specs.Lawful.{cut}
use Rattle.nvme_arbiter.specs.Observation.{IsIdle, is_class, ready_of}
use Rattle.nvme_arbiter.specs.declared.pick.Pick.{Pick}
use Rattle.nvme_arbiter.specs.declared.pick.Seen.{Seen}
use Rattle.nvme_arbiter.specs.declared.settings.Class.{Class}
use Rattle.nvme_arbiter.proofs.RoundLaws.{idle_law}
use Rattle.nvme_channels.specs.Devices.{room_of}
use Rattle.nvme_channels.specs.Steps.{finish_of}
use Rattle.nvme_log.specs.Histories.{arbitration_of}
use Rattle.nvme_ctrl_log.specs.Notes.{logged}
use Rattle.nvme_ctrl_log.specs.Observation.{observed_of}
use Rattle.nvme_model.specs.declared.finished.Finished.{Finished as Told}
use Rattle.nvme_simulation.specs.declared.happening.Happening.TheVariants.{Finished}
use Rattle.nvme_simulation.specs.declared.simulation.Simulation.{Simulation}
use Rattle.nvme_simulation.specs.Simulations.{room_at}
use Rattle.nvme_simulation.specs.Stepping.{HasStepped}
use Rattle.nvme_simulation.specs.Waits.{OneIsPickedBehindAnEnd, PicksHaveRoom, SettledIsFull}
use Rattle.nvme_simulation.specs.Devices.{device_in}
use Rattle.nvme_simulation.specs.Times.{now_of}
use Rattle.nvme_simulation.proofs.Handling.{stands_on}
use Rattle.nvme_simulation.proofs.Rooms.{finish_room}

-- where no command waits, no queue is ready
no_class : (b : Bool) → (b && false) ≡ false
no_class true = refl
no_class false = refl

none_ready : (class : Class) (p : Seen → Bool) (seen : List Seen) → IsIdle seen → list_any p (ready_of class seen) ≡ false
none_ready class p [] idle = refl
none_ready class p (x ∷ rest) idle =
    let zero : x.count ≡ 0 = All-head (λ (s : Seen). s.count ≡ 0) x rest idle in
    let unready : (is_class class x.class && nat_lt 0 x.count) ≡ false = ap (λ (n : ℕ). is_class class x.class && nat_lt 0 n) zero ∙ no_class (is_class class x.class) in
    ap (list_any p) (cond-false (is_class class x.class && nat_lt 0 x.count) (x ∷ ready_of class rest) (ready_of class rest) unready)
    ∙ none_ready class p rest (All-tail (λ (s : Seen). s.count ≡ 0) x rest idle)

pub settled_is_full : SettledIsFull
settled_is_full before after is h class qid ready =
    let f = is.front in
    elim (h.lawful f.rules f.late f.notes f.stands) [
      | inl full ↦ full
      | inr next ↦ (
          let seen = observed_of f.notes in
          let idle : IsIdle seen = (idle_law f.rules.mechanism f.rules.start.settings (arbitration_of (logged f.notes)) seen).0 (ap is_some (sym next)) in
          absurd (true≢false (sym (ready f.rules f.late f.notes f.stands) ∙ none_ready class (λ s. s.qid == qid) seen idle)))
    ]

-- a pick that is cut
cut_few : (room : ℕ) (o : Option Pick) (p : Pick) → Some p ≡ option_map (cut room) o → p.n ≤ room
cut_few room None p is = absurd (cc is)
cut_few room (Some whole) p is =
    let same : p ≡ cut room whole = same_Some p (cut room whole) is in
    let few : p.n ≡ min whole.n room = ap (λ (x : Pick). x.n) same in
    omega (arith, few)

pub picks_have_room : PicksHaveRoom
picks_have_room before after p is h =
    let f = is.front in
    cut_few (room_at before) _ p.pick (h.lawful f.rules f.late f.notes f.stands).1

-- an end makes room for one command at most
pub end_room : (before after : Simulation) (command : Told) (counts : Bool) → HasStepped before after (Finished command counts) → room_at after ≤ room_at before + 1
end_room before after command counts h =
    let ends = h.plans.plans.ends in
    let now : ℕ = now_of h.plans.rest in
    let is : device_in after.machine.device ≡ (finish_of now command.channel (device_in before.machine.device)).1 = ap device_in h.plans.plans.device ∙ ends.device in
    omega (arith, ap room_of is, finish_room now command.channel (device_in before.machine.device))

pub one_is_picked_behind_an_end : OneIsPickedBehindAnEnd
one_is_picked_behind_an_end full ended picked command counts p is none ends picks =
    let few = picks_have_room ended picked p (stands_on full ended ends.same is) picks in
    let room = end_room full ended command counts ends in
    omega (arith, few, none, room)
