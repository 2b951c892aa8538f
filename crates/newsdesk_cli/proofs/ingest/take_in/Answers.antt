use Rattle.newsdesk_cli.proofs.ingest.take_in.Goals as goal

pub returns-in-Wire-clause-answered : goal.returns-in-Wire-clause-answered
returns-in-Wire-clause-answered g c b before holds = rw c.in-Wire.is (c.ingest_wire.ensures.answered b before holds)

pub returns-in-Item-clause-answered : goal.returns-in-Item-clause-answered
returns-in-Item-clause-answered g c b before holds = rw c.in-Item.is (c.ingest_item.ensures.answered b before holds)

pub returns-in-AgencyWire-clause-answered : goal.returns-in-AgencyWire-clause-answered
returns-in-AgencyWire-clause-answered g c b before holds = rw c.in-AgencyWire.is (c.ingest_agency_wire.ensures.answered b before holds)

pub returns-in-AgencyItems-clause-answered : goal.returns-in-AgencyItems-clause-answered
returns-in-AgencyItems-clause-answered g c b before holds = rw c.in-AgencyItems.is (c.ingest_agency_items.ensures.answered b before holds)
