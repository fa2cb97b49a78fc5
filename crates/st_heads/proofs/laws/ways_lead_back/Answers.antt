use Rattle.st_heads.proofs.Leading.{way_leads_back}
use Rattle.st_heads.proofs.laws.ways_lead_back.Goals as goal

pub returns : goal.returns
returns c = λ D E w rev under x once puts cleared.
    way_leads_back D E x.before x.after.one_held x.after.register_key x.after.root_nowhere w rev under once puts cleared
