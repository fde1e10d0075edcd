-- What of a log is looked at. (profile)
use Rattle.std.specs.Prelude.{Bool, true, false, if◌then◌else◌, Option, None}
use Rattle.nvme_audit.specs.declared.event.Completion.{Completion}
use Rattle.nvme_audit.specs.declared.verdict.Rule.{Rule}
use Rattle.nvme_audit.specs.declared.verdict.Rule.TheVariants as rule
use Rattle.nvme_audit_text.specs.declared.views.Completions.TheVariants.{AsTold, Posts, Reads}
use Rattle.nvme_audit_text.specs.declared.views.Observer.{Observer}
use Rattle.nvme_audit_text.specs.declared.views.Observer.TheVariants.{Bus, Host}
use Rattle.nvme_audit_text.specs.declared.views.View.{View}

abbrev pub kept_if : {X : Type 0} → Bool → Option X → Option X
kept_if looks told = if looks then told else None

-- what a view leaves of a completion
abbrev pub seen_through : View → Completion → Completion
seen_through view c = record c { sqhd = kept_if view.sq_heads c.sqhd; phase = kept_if view.phases c.phase }

-- all that a log tells
abbrev pub whole : View
whole = record { completions = AsTold; tails = true; heads = true; fetch_slots = true; post_slots = true; phases = true; sq_heads = true; picks = true }

-- what an observer sees: no picks. The host doesn't see when an entry is fetched, nor from where
abbrev pub view_of : Observer → View
view_of Bus = record whole { completions = Posts; picks = false }
view_of Host = record whole { completions = Reads; tails = false; fetch_slots = false; picks = false }

-- a view without what one rule alone reads. The rules that are always judged have nothing of the kind: others rest on them
abbrev pub left_out : Rule → View → View
left_out rule.FetchClosed view = view
left_out rule.FetchBeyondTail view = record view { tails = false }
left_out rule.FetchSlot view = record view { fetch_slots = false }
left_out rule.PostClosed view = view
left_out rule.Slot view = record view { post_slots = false }
left_out rule.Phase view = record view { phases = false }
left_out rule.CqFull view = record view { heads = false }
left_out rule.CqWrong view = view
left_out rule.Life view = view
left_out rule.Sqhd view = record view { sq_heads = false }
left_out rule.SqdelUnasked view = view
left_out rule.AbortUnasked view = view
left_out rule.AbortUntrue view = view
left_out rule.StatusForeign view = view
left_out rule.StatusCreate view = view
left_out rule.StatusDelete view = view
left_out rule.Features view = view
