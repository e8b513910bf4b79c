use Rattle.volume_terms.proofs.OwnLaws.{own_replies, are_some, volume_there}
use Rattle.volume_terms.proofs.laws.each_volume_has_its_own_replies.Goals as goal

pub returns : goal.returns
returns c capacity entry table lines replies states name below tabled leads =
    let start = volume_there entry table name tabled in
    let mine = are_some capacity name entry lines replies states leads in
    let own = own_replies capacity name entry lines replies states start.0 mine.0 below leads start.1 mine.1 in
    record { volume = start.0; there = start.1; turns = mine.0; are = mine.1; next = own.next; own = own.own; ends = own.there }
