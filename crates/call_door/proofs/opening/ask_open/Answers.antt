-- Each thing that can be asked of a file that stands ready.
use Rattle.call_door.proofs.Opened.{meets_modules, meets_number, meets_nowhere, meets_at, in_lists, standing}
use Rattle.call_door.proofs.opening.ask_open.Goals as goal

pub returns-in-Modules : goal.returns-in-Modules
returns-in-Modules c o = meets_modules o c.in-Modules.is c.listed.ensures

pub returns-in-NumberAt : goal.returns-in-NumberAt
returns-in-NumberAt c o = meets_number o c.in-NumberAt.is c.named.ensures c.number_at.ensures

pub returns-in-None : goal.returns-in-None
returns-in-None c o = meets_nowhere o _ c.find.result c.find.ensures c.in-Of.is c.in-None.is c.refused.ensures

pub site_at-site-requires : goal.site_at-site-requires
site_at-site-requires c = in_lists c.requires.fact _ c.find.result c.find.ensures c.in-Some.is

pub work_at-requires-clause-standing : goal.work_at-requires-clause-standing
work_at-requires-clause-standing c =
    standing c.requires.fact _ c.find.result c.find.ensures c.in-Some.is c.site_at-site.ensures

pub returns-in-Some : goal.returns-in-Some
returns-in-Some c o =
    meets_at o _ c.find.result c.find.ensures c.in-Some.is c.in-Of.is c.site_at-site.ensures c.work_at.ensures
