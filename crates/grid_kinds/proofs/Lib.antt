pub mod RatedVoltages
