use Rattle.mr_world.proofs.Histories.Promises.{made_keeps, happens_keeps, leads_keeps}
use Rattle.mr_world.proofs.promises.keeping.Goals as goal

pub returns-clause-made : goal.returns-clause-made
returns-clause-made g c nothing specs w knows made = made_keeps g.K.Knowledge.form nothing knows specs w made

pub returns-clause-happens : goal.returns-clause-happens
returns-clause-happens g c w w' e answer k happens = happens_keeps g.K.Knowledge.form g.met.K.Knowledge.lists_more w w' e answer k happens

pub returns-clause-leads : goal.returns-clause-leads
returns-clause-leads g c w w' events k leads = leads_keeps g.K.Knowledge.form g.met.K.Knowledge.lists_more w w' events k leads
