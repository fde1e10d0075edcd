-- What the rules ask of one event more.
use Rattle.std.proofs.Common.{◌≡◌, [], ◌∷◌, List, map, refl, ap, ◌∙◌}
use Rattle.nvme_audit.specs.declared.event.Event.{Event}
use Rattle.nvme_audit.specs.declared.facts.Start.{Start}
use Rattle.nvme_audit.specs.declared.scene.Scene.{Scene}
use Rattle.nvme_audit.specs.declared.scene.Count.{Count}
use Rattle.nvme_audit.specs.Lives.{Past}
use Rattle.nvme_audit.specs.Coverage.{scene_of, counted}
use Rattle.nvme_audit.specs.Repairs.{scene_said}
use Rattle.nvme_audit_text.specs.Audits.{asked_in}
use Rattle.nvme_audit_text.specs.WholeAudits.{asked_whole}

all_counted : (start : Start) (past : Past) (event : Event) → map (counted (scene_of start past event)) (asked_in start past) ≡ asked_in start (event ∷ past)
unfolding asked_in
all_counted start past event = refl

pub one_event_more : (start : Start) (past : Past) (event : Event) (scene : Scene) (old new : List Count) → scene ≡ scene_of start past event → old ≡ asked_in start past → new ≡ map (counted scene) old → new ≡ asked_in start (event ∷ past)
one_event_more start past event scene old new is before more =
    more ∙ (ap (λ s. map (counted s) old) is ∙ (ap (λ l. map (counted (scene_of start past event)) l) before ∙ all_counted start past event))

-- the same where a judge goes on
whole_counted : (start : Start) (past : Past) (event : Event) → map (counted (scene_said start past event)) (asked_whole start past) ≡ asked_whole start (event ∷ past)
unfolding asked_whole
whole_counted start past event = refl

pub one_event_more_whole : (start : Start) (past : Past) (event : Event) (scene : Scene) (old new : List Count) → scene ≡ scene_said start past event → old ≡ asked_whole start past → new ≡ map (counted scene) old → new ≡ asked_whole start (event ∷ past)
one_event_more_whole start past event scene old new is before more =
    more ∙ (ap (λ s. map (counted s) old) is ∙ (ap (λ l. map (counted (scene_said start past event)) l) before ∙ whole_counted start past event))

pub none_asked_whole : (start : Start) → asked_in start [] ≡ asked_whole start []
unfolding asked_in asked_whole
none_asked_whole start = refl
