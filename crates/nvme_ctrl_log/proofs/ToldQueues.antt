-- The queues that a controller's table tells, as the queue table has them.
use Rattle.std.proofs.Common.{◌≡◌, Option, Some, None, option_map, refl, sym, ap, ◌∙◌}
use Rattle.std.proofs.lemmas.Option.{same_Some}
use Rattle.nvme_admin.specs.declared.verdict.SqEntry.{SqEntry}
use Rattle.nvme_placing.specs.Telling.{unplaced}

-- a submission queue is there, the same wherever it lies
pub record IsToldAs (e : SqEntry) (o : Option SqEntry) : Type 0 where
  pub entry : SqEntry
  pub is_there : o ≡ Some entry
  pub same : unplaced e ≡ unplaced entry

pub told_some : (a b : Option SqEntry) → option_map unplaced a ≡ option_map unplaced b → (e : SqEntry) → a ≡ Some e → IsToldAs e b
told_some a b told e is = by b (sym (ap (option_map unplaced) is) ∙ told) where
  by : (o : Option SqEntry) → Some (unplaced e) ≡ option_map unplaced o → IsToldAs e o
  by None h = absurd (cc h)
  by (Some entry) h = record { entry = entry; is_there = refl; same = same_Some (unplaced e) (unplaced entry) h }

pub told_none : (a b : Option SqEntry) → option_map unplaced a ≡ option_map unplaced b → a ≡ None → b ≡ None
told_none a b told is = by b (sym (ap (option_map unplaced) is) ∙ told) where
  by : (o : Option SqEntry) → None ≡ option_map unplaced o → o ≡ None
  by None h = refl
  by (Some entry) h = absurd (cc h)

-- it is closing, or not
pub closing_same : (e entry : SqEntry) → unplaced e ≡ unplaced entry → entry.closing ≡ e.closing
closing_same e entry same = sym (ap (λ (x : SqEntry). x.closing) same)
