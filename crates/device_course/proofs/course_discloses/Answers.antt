use Rattle.device_course.proofs.CourseLaws.{course_discloses}
use Rattle.device_course.proofs.course_discloses.Goals as goal

pub returns : goal.returns
returns c = course_discloses ⊥
