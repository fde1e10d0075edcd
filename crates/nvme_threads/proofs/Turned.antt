-- Turns of a front one after another, and how one that failed is told.
use Rattle.std.proofs.Common.{◌≡◌, refl, subst, sym, inl, inr}
use Rattle.std.specs.Prelude.{◌⊎◌, Result, Ok, Err, IfErr}
use Rattle.nvme_front.specs.View.{FrontView, GoesOn, ErrorMeans}
use Rattle.nvme_front.proofs.EndsSeen.{GoesOn-refl, GoesOn-trans}
use Rattle.nvme_front.specs.declared.front.FrontError.{FrontError}
use Rattle.nvme_front.specs.declared.front.FrontError.TheVariants as front
use Rattle.nvme_threads.specs.declared.drives.DriveError.{DriveError}
use Rattle.nvme_threads.specs.declared.drives.DriveError.TheVariants as drive
use Rattle.nvme_threads.specs.inside.Drives.{FailsAt, IsFaultAt}
use Rattle.nvme_threads.specs.Faults.{TurnFails, Accounts, HasTurned, IsDriveFault, fault_of}

-- the first turn failed so
first-fails : (given after : FrontView) (e : FrontError) → GoesOn given after → Accounts after → ErrorMeans e given after → TurnFails given e
first-fails given after e turned accounts means =
    record { before = given; after = after; goes_on = GoesOn-refl given; stood = inl refl; turned = turned; accounts = accounts; means = means }

-- a turn that failed is told so
pub told : (given after : FrontView) (e : FrontError) → GoesOn given after → Accounts after → ErrorMeans e given after → IsDriveFault given (fault_of e)
told given after front.NoMemory turned accounts means = tt
told given after front.LogFull turned accounts means = first-fails given after front.LogFull turned accounts means
told given after (front.Stray ticket) turned accounts means = first-fails given after (front.Stray ticket) turned accounts means

-- a turn of a front that made turns before failed so
later-fails : (given mid : FrontView) (e : FrontError) → GoesOn given mid → HasTurned given mid → TurnFails mid e → TurnFails given e
later-fails given mid e goes stood fails = record {
  before = fails.before;
  after = fails.after;
  goes_on = GoesOn-trans given mid fails.before goes fails.goes_on;
  stood = elim fails.stood [
    | inl same ↦ subst (λ (v : FrontView). HasTurned given v) (sym same) stood
    | inr accounts ↦ inr accounts
  ];
  turned = fails.turned;
  accounts = fails.accounts;
  means = fails.means;
}

-- a fault of a front that made turns before is one of the front that was given
pub told-later : (given mid : FrontView) (e : DriveError) → GoesOn given mid → HasTurned given mid → IsDriveFault mid e → IsDriveFault given e
told-later given mid drive.NoMemory goes stood fault = tt
told-later given mid (drive.Front front.NoMemory) goes stood fault = absurd fault
told-later given mid (drive.Front front.LogFull) goes stood fault = later-fails given mid front.LogFull goes stood fault
told-later given mid (drive.Front (front.Stray ticket)) goes stood fault = later-fails given mid (front.Stray ticket) goes stood fault

-- a turn that failed left the front so
pub told_at : (given after : FrontView) (e : FrontError) → GoesOn given after → Accounts after → ErrorMeans e given after → IsFaultAt given after (fault_of e)
unfolding first-fails
told_at given after front.NoMemory turned accounts means = tt
told_at given after front.LogFull turned accounts means = record { fails = first-fails given after front.LogFull turned accounts means; is_now = refl }
told_at given after (front.Stray ticket) turned accounts means = record { fails = first-fails given after (front.Stray ticket) turned accounts means; is_now = refl }

-- and left it so where the front had made turns before
later-at : (given mid now : FrontView) (e : FrontError) → GoesOn given mid → HasTurned given mid → FailsAt mid now e → FailsAt given now e
unfolding later-fails
later-at given mid now e goes stood at = record { fails = later-fails given mid e goes stood at.fails; is_now = at.is_now }

pub told-later_at : (given mid now : FrontView) (e : DriveError) → GoesOn given mid → HasTurned given mid → IsFaultAt mid now e → IsFaultAt given now e
told-later_at given mid now drive.NoMemory goes stood fault = tt
told-later_at given mid now (drive.Front front.NoMemory) goes stood fault = absurd fault
told-later_at given mid now (drive.Front front.LogFull) goes stood fault = later-at given mid now front.LogFull goes stood fault
told-later_at given mid now (drive.Front (front.Stray ticket)) goes stood fault = later-at given mid now (front.Stray ticket) goes stood fault

-- a drive failed by the fault of its front, which is left so, or was out of memory
pub outcome-fault_at : {U V : Type 0} (given now : FrontView) (served : Result U DriveError) (ended : Result V DriveError) → IfErr served (IsFaultAt given now)
    → IfErr ended (λ e. (served ≡ Err e) ⊎ (e ≡ drive.NoMemory)) → IfErr ended (IsFaultAt given now)
outcome-fault_at given now served (Ok x) fault so = tt
outcome-fault_at given now served (Err e) fault (inl same) = subst (λ r. IfErr r (IsFaultAt given now)) same fault
outcome-fault_at given now served (Err e) fault (inr none) = subst (IsFaultAt given now) (sym none) tt

-- a drive failed by the fault of its front, or was out of memory
pub outcome-fault : {U V : Type 0} (given : FrontView) (served : Result U DriveError) (ended : Result V DriveError) → IfErr served (IsDriveFault given) → IfErr ended (λ e. (served ≡ Err e) ⊎ (e ≡ drive.NoMemory))
    → IfErr ended (IsDriveFault given)
outcome-fault given served (Ok x) fault so = tt
outcome-fault given served (Err e) fault (inl same) = subst (λ r. IfErr r (IsDriveFault given)) same fault
outcome-fault given served (Err e) fault (inr none) = subst (IsDriveFault given) (sym none) tt
