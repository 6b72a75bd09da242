mod Holding
