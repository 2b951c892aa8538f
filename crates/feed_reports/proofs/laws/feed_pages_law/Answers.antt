use Rattle.feed_reports.proofs.Pages.{feed_report_of-page, feed_report_of-end}
use Rattle.feed_reports.proofs.laws.feed_pages_law.Goals as goal

pub returns-clause-pages : goal.returns-clause-pages
returns-clause-pages c = λ h s after. feed_report_of-page 100 h s after

pub returns-clause-end : goal.returns-clause-end
returns-clause-end c = λ h s after past. feed_report_of-end h s after past
