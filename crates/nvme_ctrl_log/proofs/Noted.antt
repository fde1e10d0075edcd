-- The notes before a note, and the log that notes contain.
use Rattle.std.proofs.Common.{◌≡◌, [], ◌∷◌, ◌++◌, refl, ap}
use Rattle.nvme_log.specs.declared.event.Event.{Event}
use Rattle.nvme_log.specs.Rules.{Past, FrontRules, Each}
use Rattle.nvme_ctrl_log.specs.Notes.{Notes, Note, Logged, EachNote, logged}
use Rattle.nvme_ctrl_log.specs.Account.{IsLawful, IsLawfulEvent}

pub EachNote-after : (P : Notes → Note → Type 0) (later notes : Notes) → EachNote P (later ++ notes) → EachNote P notes
EachNote-after P [] notes h = h
EachNote-after P (note ∷ later) notes h = EachNote-after P later notes h.1

pub logged-append : (later notes : Notes) → logged (later ++ notes) ≡ logged later ++ logged notes
logged-append [] notes = refl
logged-append (Logged e ∷ later) notes = ap (λ (past : Past). e ∷ past) (logged-append later notes)
logged-append (note ∷ later) notes = logged-append later notes

-- what holds of each lawful event holds of each event of the log
pub each-event : (P : Past → Event → Type 0) (rules : FrontRules) → ((notes : Notes) (e : Event) → IsLawfulEvent rules notes e → P (logged notes) e)
    → (notes : Notes) → EachNote (IsLawful rules) notes → Each P (logged notes)
each-event P rules f [] h = tt
each-event P rules f (Logged e ∷ notes) h = (f notes e h.0, each-event P rules f notes h.1)
each-event P rules f (note ∷ notes) h = each-event P rules f notes h.1
