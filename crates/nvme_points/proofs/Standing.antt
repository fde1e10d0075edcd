-- The first seed of a point, and what is so of answers.
use Rattle.std.proofs.Common.{◌≡◌, Some, Result, Ok, Err, ap, refl}
use Rattle.std.specs.Prelude.{IfOk}
use Rattle.toml.specs.Data.{Members}
use Rattle.nvme_model.specs.declared.model.Model.{Model}
use Rattle.nvme_model_form.specs.Models.{Says}
use Rattle.nvme_simulate.specs.declared.overrides.Overrides.{Overrides}
use Rattle.nvme_points.specs.Runs.{IsListed, Stand, first_of}

pub first_is : (options chosen : Overrides) (at : Members) (said listed model : Model) → Says at said → IsListed said listed → chosen.seed ≡ options.seed → Stand chosen listed model
    → first_of options at ≡ Some model.seed
first_is options chosen at said listed model says lists same stand =
    let kept : listed.seed ≡ said.seed = ap (λ (m : Model). m.seed) lists.rest in
    rw (says.lasting, stand.seed, same, kept) refl

-- what is so of an answer
pub answered : {X E : Type 0} {P Q : X → Type 0} (r : Result X E) → ((x : X) → P x → Q x) → IfOk r P → IfOk r Q
answered (Ok x) so p = so x p
answered (Err e) so p = tt
