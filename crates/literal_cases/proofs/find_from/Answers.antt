use Rattle.literal_cases.proofs.PlaceLaws as places
use Rattle.literal_cases.proofs.find_from.Goals as goal

pub returns-in-Some-clause-value : goal.returns-in-Some-clause-value
returns-in-Some-clause-value c = places.found_from c.args.byte c.args.bytes.now c.args.from c.requires c.in-Some.i c.in-Some.ensures

pub returns-in-None-clause-value : goal.returns-in-None-clause-value
returns-in-None-clause-value c = places.absent_from c.args.byte c.args.bytes.now c.args.from c.requires c.in-None.ensures
