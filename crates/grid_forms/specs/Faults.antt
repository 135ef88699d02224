-- The status that says why bytes are no job.
use Rattle.grid_json.specs.declared.whole.JobFault.{JobFault}
use Rattle.grid_json.specs.declared.whole.JobFault.TheVariants as faults
use Rattle.grid_forms.specs.declared.status.Status.{Status}
use Rattle.grid_forms.specs.declared.status.Status.TheVariants.{BadJson, BadJob, NoMemory}

abbrev pub status_for : JobFault → Status
status_for faults.BadJson = BadJson
status_for (faults.BadJob place reason) = BadJob place reason
status_for faults.Memory = NoMemory
