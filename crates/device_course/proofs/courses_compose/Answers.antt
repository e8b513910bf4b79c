use Rattle.device_course.proofs.CourseLaws.{course_start, course_then, course_closed, course_stops}
use Rattle.device_course.proofs.courses_compose.Goals as goal

pub returns-clause-start : goal.returns-clause-start
returns-clause-start c = course_start

pub returns-clause-then : goal.returns-clause-then
returns-clause-then c = course_then (Unit {0})

pub returns-clause-ends : goal.returns-clause-ends
returns-clause-ends c = course_then ⊥

pub returns-clause-closed : goal.returns-clause-closed
returns-clause-closed c = course_closed (Unit {0})

pub returns-clause-stops : goal.returns-clause-stops
returns-clause-stops c = course_stops
