use Rattle.std.proofs.Common.{refl}
use Rattle.afdx_input_lines.proofs.laws.fault_texts_are.Goals as goal

pub returns-clause-of_one : goal.returns-clause-of_one
returns-clause-of_one c n = refl

pub returns-clause-of_two : goal.returns-clause-of_two
returns-clause-of_two c n = refl

pub returns-clause-of_recordings : goal.returns-clause-of_recordings
returns-clause-of_recordings c n = refl

pub returns-clause-of_lists : goal.returns-clause-of_lists
returns-clause-of_lists c n = refl
