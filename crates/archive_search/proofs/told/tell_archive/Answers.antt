use Rattle.archive_search.proofs.Answered.{found_told, refused_told}
use Rattle.archive_search.proofs.told.tell_archive.Goals as goal

pub returns-in_ok-found_object-in-Found : goal.returns-in_ok-found_object-in-Found
returns-in_ok-found_object-in-Found g c = λ b stands.
    found_told b.list c.args.page c.args.query.now c.in_ok-found.field-0 (c.in_ok-found.ensures b stands) c.in-Found.found c.in-Found.is c.in_ok-found_object-in-Found.field-0 c.in_ok-found_object-in-Found.ensures

pub returns-in_ok-refused_object-in-Refused : goal.returns-in_ok-refused_object-in-Refused
returns-in_ok-refused_object-in-Refused g c = λ b stands.
    refused_told b.list c.args.page c.args.query.now c.in_ok-found.field-0 (c.in_ok-found.ensures b stands) c.in-Refused.at c.in-Refused.is c.in_ok-refused_object-in-Refused.field-0 c.in_ok-refused_object-in-Refused.ensures
