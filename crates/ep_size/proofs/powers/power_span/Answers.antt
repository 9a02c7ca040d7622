use Rattle.ep_size.proofs.Words.{nth_power_interval, interval_of}
use Rattle.ep_size.proofs.PowerParts.{gives_told, gives_untold}
use Rattle.ep_size.proofs.powers.power_span.Goals as goal

pub returns-in-Some : goal.returns-in-Some
returns-in-Some c =
    gives_told c.power.result c.in-Some.reach c.wide.result (nth_power_interval (interval_of c.args.x) c.args.exponent) c.in-Some.is c.power.ensures.same c.wide.ensures

pub returns-in-None : goal.returns-in-None
returns-in-None c =
    gives_untold c.power.result (nth_power_interval (interval_of c.args.x) c.args.exponent) c.power.ensures.told c.in-None.is
