use Rattle.lr_laws_rotations.proofs.Families.{family_is_one, family_is_aside}
use Rattle.lr_laws_rotations.proofs.rotation.rotation_is_one.Goals as goal

pub returns-clause-one : goal.returns-clause-one
returns-clause-one c = family_is_one

pub returns-clause-aside : goal.returns-clause-aside
returns-clause-aside c = family_is_aside
