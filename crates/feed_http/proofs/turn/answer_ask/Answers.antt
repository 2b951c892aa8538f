use Rattle.std.proofs.Common.{subst}
use Rattle.desk_routes.specs.Asking.{FitsAsk}
use Rattle.desk_routes.specs.declared.ask.HttpAsk.TheVariants as ask
use Rattle.feed_http.proofs.Calling.{asked_as}
use Rattle.feed_http.proofs.turn.answer_ask.Goals as goal

pub answer_command-requires-clause-stands : goal.answer_command-requires-clause-stands
answer_command-requires-clause-stands g c = c.requires.stands

pub answer_command-requires-clause-fits : goal.answer_command-requires-clause-fits
answer_command-requires-clause-fits g c = subst FitsAsk c.in-Request.is c.requires.fits

pub answer_question-requires : goal.answer_question-requires
answer_question-requires g c = c.requires.stands

pub answer_receipt-requires : goal.answer_receipt-requires
answer_receipt-requires g c = c.requires.stands

pub answer_ingest-requires-clause-stands : goal.answer_ingest-requires-clause-stands
answer_ingest-requires-clause-stands g c = c.requires.stands

pub answer_ingest-requires-clause-fits : goal.answer_ingest-requires-clause-fits
answer_ingest-requires-clause-fits g c = subst FitsAsk c.in-Ingest.is c.requires.fits

pub returns-in-Request : goal.returns-in-Request
returns-in-Request g c =
    asked_as g.K.Keeper.keeper c.args.room.now c.answer_command.new.room c.args.ask (ask.Request c.in-Request.caller c.in-Request.number c.in-Request.command) c.args.now c.answer_command.result c.in-Request.is c.answer_command.ensures

pub returns-in-Query : goal.returns-in-Query
returns-in-Query g c = asked_as g.K.Keeper.keeper c.args.room.now c.answer_question.new.room c.args.ask (ask.Query c.in-Query.question) c.args.now c.answer_question.result c.in-Query.is c.answer_question.ensures

pub returns-in-Receipt : goal.returns-in-Receipt
returns-in-Receipt g c = asked_as g.K.Keeper.keeper c.args.room.now c.answer_receipt.new.room c.args.ask (ask.Receipt c.in-Receipt.subscriber c.in-Receipt.n) c.args.now c.answer_receipt.result c.in-Receipt.is c.answer_receipt.ensures

pub returns-in-Ingest : goal.returns-in-Ingest
returns-in-Ingest g c = asked_as g.K.Keeper.keeper c.args.room.now c.answer_ingest.new.room c.args.ask (ask.Ingest c.in-Ingest.provider c.in-Ingest.incoming) c.args.now c.answer_ingest.result c.in-Ingest.is c.answer_ingest.ensures

pub answer_search-requires : goal.answer_search-requires
answer_search-requires g c = c.requires.stands

pub answer_package-requires-clause-stands : goal.answer_package-requires-clause-stands
answer_package-requires-clause-stands g c = c.requires.stands

pub answer_package-requires-clause-fits : goal.answer_package-requires-clause-fits
answer_package-requires-clause-fits g c = subst FitsAsk c.in-Package.is c.requires.fits

pub returns-in-Archive : goal.returns-in-Archive
returns-in-Archive g c = asked_as g.K.Keeper.keeper c.args.room.now c.answer_search.new.archive c.args.ask (ask.Archive c.in-Archive.page c.in-Archive.query) c.args.now c.answer_search.result c.in-Archive.is c.answer_search.ensures

pub returns-in-Package : goal.returns-in-Package
returns-in-Package g c = asked_as g.K.Keeper.keeper c.args.room.now c.answer_package.new.room c.args.ask (ask.Package c.in-Package.caller c.in-Package.number c.in-Package.described) c.args.now c.answer_package.result c.in-Package.is c.answer_package.ensures

pub answer_contents-requires : goal.answer_contents-requires
answer_contents-requires g c = c.requires.stands

pub returns-in-Contents : goal.returns-in-Contents
returns-in-Contents g c = asked_as g.K.Keeper.keeper c.args.room.now c.answer_contents.new.newsroom c.args.ask (ask.Contents c.in-Contents.publication) c.args.now c.answer_contents.result c.in-Contents.is c.answer_contents.ensures

pub answer_desk_question-requires : goal.answer_desk_question-requires
answer_desk_question-requires g c = c.requires.stands

pub returns-in-Desk : goal.returns-in-Desk
returns-in-Desk g c = asked_as g.K.Keeper.keeper c.args.room.now c.answer_desk_question.new.desks c.args.ask (ask.Desk c.in-Desk.question) c.args.now c.answer_desk_question.result c.in-Desk.is c.answer_desk_question.ensures
