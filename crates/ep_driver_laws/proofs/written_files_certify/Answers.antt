use Rattle.ep_driver_laws.proofs.Certified.{answers_certify, lists_certify}
use Rattle.ep_driver_laws.proofs.CertifiedCubes.{cubes_certify}
use Rattle.ep_driver_laws.proofs.written_files_certify.Goals as goal

pub returns-clause-answers : goal.returns-clause-answers
returns-clause-answers c = answers_certify c.valid_logs_are_accepted.ensures.no_bad c.valid_logs_are_accepted.ensures.closed

pub returns-clause-lists : goal.returns-clause-lists
returns-clause-lists c = lists_certify c.valid_logs_are_accepted.ensures.no_bad c.valid_logs_are_accepted.ensures.closed

pub returns-clause-cubes : goal.returns-clause-cubes
returns-clause-cubes c = cubes_certify c.valid_logs_are_accepted.ensures.no_bad c.valid_logs_are_accepted.ensures.closed
