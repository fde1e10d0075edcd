-- Notes after which the same tags are out.
use Rattle.std.proofs.Common.{◌≡◌, ℕ, get_or, Option, Some, None, refl, sym, ap, ◌∙◌}
use Rattle.std.specs.Prelude.{is_none}
use Rattle.nvme_log.specs.declared.place.Place.{Place}
use Rattle.nvme_log.specs.Answers.{Answer}
use Rattle.nvme_ctrl_log.specs.Notes.{Notes}
use Rattle.nvme_ctrl_log.specs.Tags.{holder, answer_of, is_out, is_unanswered}
use Rattle.nvme_jobs.specs.Hands.{in_hand}
use Rattle.nvme_jobs.specs.inside.Jobs.{JobsView}
use Rattle.nvme_front.specs.inside.Room.{HoldsTags}

-- the same tags stand for the same places, and the same places are answered
pub record SameTags (old new : Notes) : Type 0 where
  pub holders : (t : ℕ) → holder new t ≡ holder old t
  pub answers : (r i : ℕ) → answer_of new r i ≡ answer_of old r i

-- a place is answered or not as before
pub same_unanswered : (old new : Notes) → ((r i : ℕ) → answer_of new r i ≡ answer_of old r i) → (o : Option Place) → is_unanswered new o ≡ is_unanswered old o
same_unanswered old new answers None = refl
same_unanswered old new answers (Some p) = ap (λ (a : Option Answer). is_none a) (answers p.region p.index)

-- a tag is out or not as before
pub same_out : (old new : Notes) → SameTags old new → (t : ℕ) → is_out new t ≡ is_out old t
same_out old new same t = same_unanswered old new same.answers (holder new t) ∙ ap (is_unanswered old) (same.holders t)

-- so the tags in hand are those that are out
pub tags_stay : (old new : Notes) (j : JobsView) → SameTags old new → HoldsTags old j → HoldsTags new j
tags_stay old new j same h = record {
  each = λ i d lt. record {
    out = same_out old new same (get_or (in_hand j.hands) i d).tag ∙ (h.each i d lt).out;
    held = same.holders (get_or (in_hand j.hands) i d).tag ∙ (h.each i d lt).held;
  };
  apart = h.apart;
  all = λ t out. h.all t (sym (same_out old new same t) ∙ out);
}
